-- The counts by which a call is answered, and the answer by them.
use Rattle.std.proofs.Common.{◌≡◌, ◌<◌, ◌≤◌, ℕ, zero, suc, ◌+◌, ◌-◌, ◌*◌, ◌^◌, Bool, true, false, ◌&&◌, List, length, Option, ap, ◌∙◌, arith}
use Rattle.std.specs.Prelude.{min, sum_by, is_some, nat_lt, ◌==◌}
use Rattle.std.specs.List.{count_by, range_with_len}
use Rattle.std.proofs.Math.Nat.{mul-le-mul_right}
use Rattle.std.proofs.lemmas.Bool.{cond-true, cond-false, lt-ltb, le-ltb}
use Rattle.lufs_base.specs.Layout.{IsGeometry, blocks_of}
use Rattle.lufs_base.specs.declared.geometry.Geometry.{Geometry}
use Rattle.volume_model.specs.declared.hand.Hand.{Hand}
use Rattle.volume_model.specs.Format.{Blocks}
use Rattle.volume_model.specs.Sound.{reading_of, Tree, StandsFor}
use Rattle.volume_laws.proofs.Counting.{one_if}
use Rattle.cyl_groups.specs.declared.group.Group.{Group}
use Rattle.block_alloc.specs.declared.choice.Counts.{Counts}
use Rattle.block_alloc.specs.Records.{AreRecords, clear_inodes_among, clear_blocks_among, may_give}
use Rattle.tree_types.specs.declared.waiting.Wait.TheVariants.{Unreleased, InHand}
use Rattle.block_alloc.specs.declared.taken.Taken.{Taken}
use Rattle.block_alloc.specs.declared.taken.Taken.TheVariants.{Got, Later, NoInodes, NoSpace}
use Rattle.block_alloc.specs.Taking.{answer_by, released_blocks}
use Rattle.block_alloc.specs.Choosing.{AreCounts}
use Rattle.block_alloc.proofs.Ranges.{count_more}
use Rattle.block_alloc.proofs.Counted.{inodes_by_hand, blocks_by_hand, free_inodes_are, free_blocks_are, inodes_at_most, blocks_at_most}
use Rattle.block_alloc.proofs.Chosen.{released_counted}

one_at_most : (t : Bool) → one_if t ≤ 1
one_at_most true = omega arith
one_at_most false = omega arith

-- no more numbers of a range pass than there are
pub count_at_most : (p : ℕ → Bool) (n : ℕ) → count_by p (range_with_len 0 n) ≤ n
count_at_most p zero = omega arith
count_at_most p (suc n) =
    let next : n + 1 ≡ suc n = omega arith in
    omega (arith, ap (λ (k : ℕ). count_by p (range_with_len 0 k)) next, count_more p n, one_at_most (p n), count_at_most p n)

blocks_fit : (g : Geometry) → IsGeometry g → blocks_of g ≤ 139267
blocks_fit g ok =
    let most : g.groups * g.bpg ≤ 64 * g.bpg = mul-le-mul_right g.bpg ok.groups_high in
    omega (arith, most, ok.bpg_high, ok.log_high)

pub counts_right : (g : Geometry) (blocks : Blocks) (tree : Tree) (hands : List Hand) (records : List (Option Group)) (may : ℕ → Bool) (counts : Counts) → IsGeometry g
    → AreRecords (reading_of g blocks) records → StandsFor g blocks tree hands
    → counts.free_inodes ≡ min (clear_inodes_among g records + count_by (λ hand. is_some hand.inode) hands) (2 ^ 32 - 1)
    → counts.free_blocks ≡ min (clear_blocks_among g records + min (sum_by (λ hand. length hand.blocks) hands) (2 ^ 64 - 1)) (2 ^ 32 - 1)
    → counts.released ≡ min (count_by (may_give g records may) (range_with_len 0 (blocks_of g)) + min (sum_by (λ hand. length hand.blocks) hands) (2 ^ 64 - 1)) (2 ^ 32 - 1)
    → counts.inodes_in_hand ≡ min (0 + count_by (λ hand. is_some hand.inode) hands) (2 ^ 32 - 1)
    → counts.blocks_in_hand ≡ min (0 + min (sum_by (λ hand. length hand.blocks) hands) (2 ^ 64 - 1)) (2 ^ 32 - 1)
    → AreCounts g (reading_of g blocks) tree may hands counts
counts_right g blocks tree hands records may counts ok so stands fi fb rel ih bh =
    let free = free_inodes_are g blocks tree hands records ok stands so in
    let left = free_blocks_are g blocks tree hands records ok stands so in
    let given = released_counted g blocks hands stands.sound records ok so may in
    let fits : released_blocks g (reading_of g blocks) may hands ≤ blocks_of g = count_at_most _ (blocks_of g) in
    let inodes = inodes_by_hand hands in
    let held = blocks_by_hand hands in
    let few = inodes_at_most g tree ok in
    let some = blocks_at_most g tree ok in
    record {
      free_inodes = omega (arith, fi, free, inodes, few);
      free_blocks = omega (arith, fb, left, held, some);
      released = omega (arith, rel, given, held, fits, blocks_fit g ok);
      inodes_in_hand = omega (arith, ih, free, inodes, few);
      blocks_in_hand = omega (arith, bh, left, held, some);
    }

-- the answer, case by case
module _ (inode : Bool) (n free_inodes free_blocks released inodes_in_hand blocks_in_hand : ℕ) (hand : Hand) where
  abbrev none_left : Bool
  none_left = inode && free_inodes == 0

  abbrev all_held : Bool
  all_held = inode && free_inodes == inodes_in_hand

  abbrev answer : Taken
  answer = answer_by inode n free_inodes free_blocks released inodes_in_hand blocks_in_hand hand

  pub no_inodes : none_left ≡ true → answer ≡ NoInodes
  unfolding answer_by
  no_inodes none = cond-true none_left NoInodes _ none

  pub no_space : none_left ≡ false → free_blocks < n → answer ≡ NoSpace
  unfolding answer_by
  no_space some few = cond-false none_left NoInodes _ some ∙ cond-true (nat_lt free_blocks n) NoSpace _ (lt-ltb free_blocks n few)

  module _ (some : none_left ≡ false) (room : n ≤ free_blocks) where
    pub inodes_held : all_held ≡ true → answer ≡ Later (InHand true 1 free_inodes inodes_in_hand)
    unfolding answer_by
    inodes_held held = cond-false none_left NoInodes _ some ∙ cond-false (nat_lt free_blocks n) NoSpace _ (le-ltb free_blocks n room) ∙ cond-true all_held _ _ held

    module _ (left : all_held ≡ false) where
      pub unreleased : released < n → answer ≡ Later (Unreleased released free_blocks n)
      unfolding answer_by
      unreleased few =
          cond-false none_left NoInodes _ some ∙ cond-false (nat_lt free_blocks n) NoSpace _ (le-ltb free_blocks n room) ∙ cond-false all_held _ _ left
          ∙ cond-true (nat_lt released n) _ _ (lt-ltb released n few)

      module _ (many : n ≤ released) where
        pub blocks_held : released - blocks_in_hand < n → answer ≡ Later (InHand false n released blocks_in_hand)
        unfolding answer_by
        blocks_held few =
            cond-false none_left NoInodes _ some ∙ cond-false (nat_lt free_blocks n) NoSpace _ (le-ltb free_blocks n room) ∙ cond-false all_held _ _ left
            ∙ cond-false (nat_lt released n) _ _ (le-ltb released n many) ∙ cond-true (nat_lt (released - blocks_in_hand) n) _ _ (lt-ltb (released - blocks_in_hand) n few)

        pub got : n ≤ released - blocks_in_hand → answer ≡ Got hand
        unfolding answer_by
        got enough =
            cond-false none_left NoInodes _ some ∙ cond-false (nat_lt free_blocks n) NoSpace _ (le-ltb free_blocks n room) ∙ cond-false all_held _ _ left
            ∙ cond-false (nat_lt released n) _ _ (le-ltb released n many) ∙ cond-false (nat_lt (released - blocks_in_hand) n) _ _ (le-ltb (released - blocks_in_hand) n enough)
