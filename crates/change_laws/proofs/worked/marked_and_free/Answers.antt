use Rattle.std.proofs.Common.{◌≡◌, ◌<◌, ◌≤◌, ◌+◌, ◌*◌, true, false, [], ◌∷◌, refl, arith, if◌then◌else◌}
use Rattle.std.proofs.lemmas.Bool.{agree_below_at}
use Rattle.std.proofs.lemmas.List.Elements.{All-nil, All-cons}
use Rattle.lufs_base.specs.Fields.{number_in}
use Rattle.lufs_base.specs.Layout.{group_start}
use Rattle.volume_model.specs.MkfsImage.{made_block}
use Rattle.volume_model.specs.Format.{is_body, bit_at, clear_bits, group_bytes, group_of, dinode_bytes, dinode_of, numbers_in, slots_in}
use Rattle.volume_model.specs.Sound.{reading_of, inodes_in, held_inodes, is_among, inode_bit, block_bit}
use Rattle.volume_model.specs.Worked.{smallest, made, with_held_bits}
use Rattle.change_laws.specs.Marks.{group_of_inode, group_of_block}
use Rattle.change_laws.specs.Worked.{three_and_block, group_in}
use Rattle.change_laws.proofs.worked.marked_and_free.Goals as goal

pub returns-clause-free : goal.returns-clause-free
unfolding number_in made_block clear_bits group_bytes group_of dinode_bytes dinode_of numbers_in slots_in reading_of
returns-clause-free c =
    let r = reading_of smallest made in
    record {
      apart = λ i j d less inside. absurd (omega (arith, less, inside));
      usable = All-cons (λ i. (2 ≤ i) × (i < inodes_in r)) 3 [] (omega arith, omega arith) (All-nil (λ i. (2 ≤ i) × (i < inodes_in r)));
      inode_clear = All-cons (λ i. inode_bit smallest r i ≡ false) 3 [] refl (All-nil (λ i. inode_bit smallest r i ≡ false));
      body = All-cons (λ b. is_body smallest b ≡ true) 38 [] refl (All-nil (λ b. is_body smallest b ≡ true));
      blocks_clear = All-cons (λ b. block_bit smallest r b ≡ false) 38 [] refl (All-nil (λ b. block_bit smallest r b ≡ false));
    }

pub returns-clause-group : goal.returns-clause-group
returns-clause-group c = record {
  inode = All-cons (λ i. group_of_inode smallest i ≡ 0) 3 [] refl (All-nil (λ i. group_of_inode smallest i ≡ 0));
  blocks = All-cons (λ b. group_of_block smallest b ≡ 0) 38 [] refl (All-nil (λ b. group_of_block smallest b ≡ 0));
}

pub returns-clause-set : goal.returns-clause-set
unfolding number_in made_block clear_bits group_bytes
returns-clause-set c =
    let old = group_in made in
    let new = group_in with_held_bits in
    record {
      inode_bits = λ place below.
          agree_below_at (λ place. bit_at new.inode_bits place)
          (λ place. if is_among (0 * 32 + place) (held_inodes (three_and_block ∷ [])) then true else bit_at old.inode_bits place) 32 place refl below;
      block_bits = λ place below.
          agree_below_at (λ place. bit_at new.block_bits place)
          (λ place. if is_among (group_start smallest 0 + place) three_and_block.blocks then true else bit_at old.block_bits place) 64 place refl below;
    }

pub returns-clause-cleared : goal.returns-clause-cleared
unfolding number_in made_block clear_bits group_bytes
returns-clause-cleared c =
    let old = group_in with_held_bits in
    let new = group_in made in
    record {
      inode_bits = λ place below.
          agree_below_at (λ place. bit_at new.inode_bits place)
          (λ place. if is_among (0 * 32 + place) (held_inodes (three_and_block ∷ [])) then false else bit_at old.inode_bits place) 32 place refl below;
      block_bits = λ place below.
          agree_below_at (λ place. bit_at new.block_bits place)
          (λ place. if is_among (group_start smallest 0 + place) three_and_block.blocks then false else bit_at old.block_bits place) 64 place refl below;
    }
