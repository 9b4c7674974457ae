-- A content in which a hand is marked in the records of all groups: the tree that it stands for, and the change that makes it.
use Rattle.std.proofs.Common.{◌≡◌, ◌<◌, ◌≤◌, inl, inr, ℕ, ◌-◌, ◌/◌, ◌%◌, Bool, true, false, not, ◌&&◌, List, [], ◌∷◌, take, Option, Some, None, option_map, refl, sym, ap, ◌∙◌, subst, arith}
use Rattle.std.specs.Prelude.{nat_lt, slice_get}
use Rattle.std.specs.Option.{option_map_or, option_flatten}
use Rattle.std.proofs.lemmas.Bool.{cases_lt, cond-false, le-ltb, and_parts, not-true, false≢true}
use Rattle.std.proofs.lemmas.List.Elements.{All-weaker}
use Rattle.lufs_base.specs.Layout.{IsGeometry, group_start, blocks_of, region_of}
use Rattle.lufs_base.specs.declared.geometry.Geometry.{Geometry}
use Rattle.volume_model.specs.declared.hand.Hand.{Hand}
use Rattle.volume_model.specs.Format.{Blocks, GroupRecord, bit_at, is_body, inodes_of}
use Rattle.volume_model.specs.Sound.{Reading, reading_of, inodes_in, record_at, claims_of, claim_length, greatest_on, record_length, length_of_records, read_length, IsLaid, held_inodes, inode_bit, block_bit, IsStored, IsRightTree, HasRightLinks, Tree, tree_of, StandsFor, AgreeWhereRead}
use Rattle.volume_laws.proofs.ClaimFacts.{length-inodes}
use Rattle.volume_laws.proofs.LaidClaims.{greatest_below, max-zero, body_of_claim}
use Rattle.volume_laws.proofs.SoundParts.{in_parts}
use Rattle.volume_laws.proofs.SameReading.{reading_same}
use Rattle.volume_laws.proofs.SameTree.{agree_in_metadata, same_tree_of}
use Rattle.change_laws.specs.Marks.{IsFree}
use Rattle.change_laws.proofs.Places.{body_inside}
use Rattle.cyl_groups.specs.declared.group.Group.{Group}
use Rattle.cyl_groups.specs.Group.{record_of}
use Rattle.block_alloc.specs.Records.{AreRecords, is_clear_inode, is_clear_block, may_give}
use Rattle.block_alloc.specs.Choosing.{IsChosen}
use Rattle.block_alloc.specs.Marks.{IsOfVolume, AreMarkedTo}
use Rattle.block_alloc.proofs.Chosen.{record_kept}
use Rattle.block_alloc.proofs.MarkedReading.{marked_stored, links_same}

-- a bit that is clear in a record in memory is clear
clear_bit : (bits : Group → List ℕ) (bits_of : GroupRecord → List ℕ) → ((x : Group) → bits_of (record_of x) ≡ bits x) → (place : ℕ) (o : Option Group) (q : Option GroupRecord)
    → q ≡ option_map record_of o → option_map_or (λ x. not (bit_at (bits x) place)) o false ≡ true → option_map_or (λ group. bit_at (bits_of group) place) q false ≡ false
clear_bit bits bits_of same place None q is clear = absurd (false≢true clear)
clear_bit bits bits_of same place (Some x) q is clear =
    ap (λ (p : Option GroupRecord). option_map_or (λ group. bit_at (bits_of group) place) p false) is
    ∙ ap (λ (bs : List ℕ). bit_at bs place) (same x) ∙ not-true (bit_at (bits x) place) clear

-- what was chosen is of the volume, and free by the bits
pub chosen_of_volume : (g : Geometry) (records : List (Option Group)) (may : ℕ → Bool) (hand : Hand) → IsChosen g records may hand → IsOfVolume g hand
chosen_of_volume g records may hand chosen = record {
  usable = chosen.usable;
  body = All-weaker (λ b. may_give g records may b ≡ true) (λ b. is_body g b ≡ true)
      (λ b given. (and_parts (is_body g b) (is_clear_block g records b) (and_parts (is_body g b && is_clear_block g records b) (may b) given).0).0) hand.blocks chosen.given;
}

pub chosen_free : (g : Geometry) (blocks : Blocks) (records : List (Option Group)) (may : ℕ → Bool) (hand : Hand) → AreRecords (reading_of g blocks) records
    → IsChosen g records may hand → IsFree g (reading_of g blocks) hand
chosen_free g blocks records may hand so chosen =
    let r = reading_of g blocks in
    record {
      apart = λ i j d before inside same. (let less = chosen.rising i j d before inside in absurd (omega (arith, less, same)));
      usable = All-weaker (λ i. (2 ≤ i) × (i < inodes_of g)) (λ i. (2 ≤ i) × (i < inodes_in r)) (λ i its. (its.0, omega (arith, its.1, length-inodes g blocks))) (held_inodes (hand ∷ []))
          chosen.usable;
      inode_clear = All-weaker (λ i. is_clear_inode g records i ≡ true) (λ i. inode_bit g r i ≡ false)
          (λ i clear. clear_bit (λ x. x.inode_bits) (λ x. x.inode_bits) (λ x. refl) (i % g.ipg) (option_flatten (slice_get records (i / g.ipg))) (record_at r (i / g.ipg))
          (record_kept r records (i / g.ipg) so) clear) (held_inodes (hand ∷ [])) chosen.inode_clear;
      body = (chosen_of_volume g records may hand chosen).body;
      blocks_clear = All-weaker (λ b. may_give g records may b ≡ true) (λ b. block_bit g r b ≡ false)
          (λ b given.
          let clear = (and_parts (is_body g b) (is_clear_block g records b) (and_parts (is_body g b && is_clear_block g records b) (may b) given).0).1 in
          let n = (b - group_start g 0) / g.bpg in
          clear_bit (λ x. x.block_bits) (λ x. x.block_bits) (λ x. refl) ((b - group_start g 0) % g.bpg) (option_flatten (slice_get records n)) (record_at r n)
          (record_kept r records n so) clear) hand.blocks chosen.given;
    }

-- nothing is read past the volume
nothing_past : (g : Geometry) (r : Reading) (b : ℕ) → IsLaid g r → blocks_of g ≤ b → read_length g r b ≡ 0
unfolding read_length
nothing_past g r b laid past =
    let records : length_of_records g b ≡ 0 = cond-false (nat_lt b (blocks_of g)) (record_length (region_of g b)) 0 (le-ltb b (blocks_of g) past) in
    let claims : greatest_on (claim_length r) (claims_of r) b ≤ 0 = greatest_below (claim_length r) (claims_of r) b 0 (λ c there same.
    (let inside = body_inside g c.block (body_of_claim g r laid c there) in absurd (omega (arith, inside, same, past)))) in
    max-zero (length_of_records g b) (greatest_on (claim_length r) (claims_of r) b) 0 records claims (omega arith)

-- contents that have the same blocks of the volume
pub agree_inside : (g : Geometry) (blocks others : Blocks) → IsLaid g (reading_of g blocks) → ((b : ℕ) → b < blocks_of g → others b ≡ blocks b) → AgreeWhereRead g blocks others
agree_inside g blocks others laid same b =
    let read = read_length g (reading_of g blocks) b in
    elim (cases_lt b (blocks_of g)) [
      | inl inside ↦ ap (take read) (same b inside)
      | inr past ↦
          let none : read ≡ 0 = nothing_past g (reading_of g blocks) b laid past in
          ap (λ (n : ℕ). take n (others b)) none ∙ sym (ap (λ (n : ℕ). take n (blocks b)) none)
    ]

pub same_reading : (g : Geometry) (blocks others : Blocks) → IsGeometry g → IsLaid g (reading_of g blocks) → ((b : ℕ) → b < blocks_of g → others b ≡ blocks b)
    → reading_of g others ≡ reading_of g blocks
same_reading g blocks others ok laid same = reading_same g blocks others ok (agree_in_metadata g blocks others (agree_inside g blocks others laid same))

pub same_tree : (g : Geometry) (blocks others : Blocks) → IsGeometry g → IsLaid g (reading_of g blocks) → ((b : ℕ) → b < blocks_of g → others b ≡ blocks b)
    → tree_of g others ≡ tree_of g blocks
same_tree g blocks others ok laid same = same_tree_of g blocks others ok (agree_inside g blocks others laid same)

-- a content with these groups, and all else as before, stands for the same tree with the hand among the hands
module _ (g : Geometry) (blocks others : Blocks) (hand : Hand) (ok : IsGeometry g) (marked : AreMarkedTo g blocks others hand g.groups) (free : IsFree g (reading_of g blocks) hand) where
  abbrev r : Reading
  r = reading_of g blocks

  abbrev new_groups : List (Option GroupRecord)
  new_groups = (reading_of g others).groups

  pub reading_is : reading_of g others ≡ record r { groups = new_groups }
  reading_is = λ t. record { groups = new_groups; inodes = marked.inodes t }

  pub stands_then : (tree : Tree) (hands : List Hand) → StandsFor g blocks tree hands → StandsFor g others tree (hand ∷ hands)
  stands_then tree hands stands =
      let parts = (in_parts g blocks hands).0 stands.sound in
      let stored : IsStored g (record r { groups = new_groups }) (hand ∷ hands) =
      marked_stored g r new_groups hand ok (length-inodes g blocks) (λ m below. marked.marked m below) hands parts.0 free in
      let links : HasRightLinks (record r { groups = new_groups }) = links_same g r new_groups parts.2 in
      record {
        sound = (in_parts g others (hand ∷ hands)).1 (
          subst (λ (x : Reading). IsStored g x (hand ∷ hands)) (sym reading_is) stored,
          subst (λ (t : Tree). IsRightTree g t) (sym marked.tree) parts.1,
          subst (λ (x : Reading). HasRightLinks x) (sym reading_is) links,
        );
        stands = marked.tree ∙ stands.stands;
      }
