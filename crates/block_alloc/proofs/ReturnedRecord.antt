-- The record of a group with the bit of one block or inode cleared, put in the place of the one before.
use Rattle.std.proofs.Common.{◌≡◌, ◌≢◌, ◌<◌, inl, inr, ℕ, ◌+◌, ◌*◌, ◌/◌, ◌%◌, Bool, true, false, not, ◌&&◌, cond, List, [], ◌∷◌, Option, Some, refl, sym, ap, ◌∙◌, subst, arith}
use Rattle.std.specs.Prelude.{is_some, ◌==◌, nat_lt}
use Rattle.std.specs.Option.{option_map_or}
use Rattle.std.proofs.lemmas.Bool.{cases_eq, and_right, and_from, eq-eqb, ne_eqb, or_from, or_left, not_from_false, ltb-true}
use Rattle.lufs_base.specs.Fields.{put_at}
use Rattle.lufs_base.specs.Layout.{IsGeometry, group_start, blocks_of}
use Rattle.lufs_base.specs.declared.geometry.Geometry.{Geometry}
use Rattle.volume_model.specs.declared.hand.Hand.{Hand}
use Rattle.volume_model.specs.Format.{Blocks, GroupRecord, IsGroup, bit_at, group_bytes, is_body, HasBit}
use Rattle.volume_model.specs.Sound.{Reading, reading_of, record_at, block_bit, is_among, IsLaid, is_bad_group, IsStored, IsRightTree, HasRightLinks, Tree, tree_of, StandsFor}
use Rattle.volume_laws.specs.Changes.{with_group}
use Rattle.volume_laws.proofs.BodyBlocks.{body_at}
use Rattle.volume_laws.proofs.SoundParts.{in_parts}
use Rattle.change_laws.specs.Marks.{group_of_block, place_of_block}
use Rattle.change_laws.proofs.OneGroup.{record_put, record_kept}
use Rattle.meta_store.specs.Changes.{with_part}
use Rattle.meta_store.specs.Conditions.{HasBitsOf}
use Rattle.block_alloc.proofs.HandPut.{block_at_place}
use Rattle.block_alloc.proofs.MarkedContent.{laid_by_inodes}
use Rattle.block_alloc.proofs.MarkedReading.{block_in_group, links_same}
use Rattle.block_alloc.proofs.MarkedStands.{same_reading, same_tree}
use Rattle.block_alloc.proofs.RecordReplaced.{reading_replaced, tree_kept}

-- a body block lies past the records of its group
pub past_records : (g : Geometry) (b : ℕ) → IsGeometry g → is_body g b ≡ true → place_of_block g b < g.bpg → g.ipg / 32 < place_of_block g b
past_records g b ok body below =
    let n = group_of_block g b in
    let place = place_of_block g b in
    let at : group_start g n + place ≡ b = block_at_place g b n ok body refl in
    let test : nat_lt (g.ipg / 32) place ≡ true = sym (body_at g ok n place (block_in_group g b ok body) below) ∙ ap (is_body g) at ∙ body in
    ltb-true (g.ipg / 32) place test

-- the content with the record in its place
abbrev pub with_record : Geometry → Blocks → (n : ℕ) → GroupRecord → Blocks
with_record g blocks n new = with_part blocks (4096 * group_start g n / 4096) (4096 * group_start g n % 4096) (group_bytes new)

pub record_beside : (g : Geometry) (blocks : Blocks) (n : ℕ) (new : GroupRecord) (b : ℕ) → b ≢ group_start g n → with_record g blocks n new b ≡ blocks b
record_beside g blocks n new b away =
    let home = 4096 * group_start g n in
    let at : home / 4096 ≡ group_start g n = omega arith in
    ap (λ (t : Bool). cond t (put_at (blocks b) (home % 4096) (group_bytes new)) (blocks b)) (ne_eqb b (home / 4096) (λ same. away (same ∙ at)))

record_there : (g : Geometry) (blocks : Blocks) (n : ℕ) (new : GroupRecord) → with_record g blocks n new (group_start g n) ≡ put_at (blocks (group_start g n)) 0 (group_bytes new)
record_there g blocks n new =
    let b = group_start g n in
    let home = 4096 * b in
    let at : b ≡ home / 4096 = omega arith in
    let place : home % 4096 ≡ 0 = omega arith in
    ap (λ (t : Bool). cond t (put_at (blocks b) (home % 4096) (group_bytes new)) (blocks b)) (eq-eqb b (home / 4096) at)
    ∙ ap (λ (k : ℕ). put_at (blocks b) k (group_bytes new)) place

-- the bits of a reading with another record of group n
module _ (g : Geometry) (r : Reading) (n : ℕ) (old new : GroupRecord) (ok : IsGeometry g) (was : record_at r n ≡ Some old) where
  abbrev after_put : Reading
  after_put = with_group r n (Some new)

  good : is_bad_group r n ≡ false
  good = ap (λ (o : Option GroupRecord). not (is_some o)) was

  bit : ℕ → Option GroupRecord → Bool
  bit c o = option_map_or (λ group. bit_at group.block_bits (place_of_block g c)) o false

  mine : (c : ℕ) → group_of_block g c ≡ n → (block_bit g after_put c ≡ bit_at new.block_bits (place_of_block g c)) × (block_bit g r c ≡ bit_at old.block_bits (place_of_block g c))
  unfolding bit
  mine c same = (
    ap (λ (m : ℕ). bit c (record_at after_put m)) same ∙ ap (bit c) (record_put r n new good),
    ap (λ (m : ℕ). bit c (record_at r m)) same ∙ ap (bit c) was,
  )

  other : (c : ℕ) → group_of_block g c ≢ n → block_bit g after_put c ≡ block_bit g r c
  unfolding bit
  other c away = ap (bit c) (record_kept r n new (group_of_block g c) away)

  -- the bits where none of a block changed
  pub same_bits : new.block_bits ≡ old.block_bits → (c : ℕ) → block_bit g after_put c ≡ block_bit g r c
  same_bits same c = elim (cases_eq (group_of_block g c) n) [
    | inl here ↦ (mine c here).0 ∙ ap (λ (bits : List ℕ). bit_at bits (place_of_block g c)) same ∙ sym (mine c here).1
    | inr away ↦ other c away
  ]

  -- where that of block b was cleared
  module _ (b : ℕ) (body : is_body g b ≡ true) (its_group : group_of_block g b ≡ n) (put : HasBit (place_of_block g b) false old.block_bits new.block_bits) where
    pub clear_there : block_bit g after_put b ≡ false
    clear_there = (mine b its_group).0 ∙ put.bit

    pub same_elsewhere : (c : ℕ) → is_body g c ≡ true → c ≢ b → block_bit g after_put c ≡ block_bit g r c
    same_elsewhere c its_body away = elim (cases_eq (group_of_block g c) n) [
      | inl here ↦
          let apart : place_of_block g c ≢ place_of_block g b = λ same. away (
          sym (block_at_place g c n ok its_body here) ∙ ap (λ (p : ℕ). group_start g n + p) same ∙ block_at_place g b n ok body its_group) in
          (mine c here).0 ∙ put.others (place_of_block g c) apart ∙ sym (mine c here).1
      | inr beside ↦ other c beside
    ]

module _ (g : Geometry) (blocks : Blocks) (n : ℕ) (old new : GroupRecord) (ok : IsGeometry g) (laid : IsLaid g (reading_of g blocks)) (within : n < g.groups) (group : IsGroup g n new)
    (was : record_at (reading_of g blocks) n ≡ Some old) where
  abbrev pub r : Reading
  r = reading_of g blocks

  abbrev pub after : Reading
  after = with_group r n (Some new)

  pub reading_then : reading_of g (with_record g blocks n new) ≡ after
  reading_then = reading_replaced g blocks (with_record g blocks n new) n new ok laid within group (record_beside g blocks n new) (record_there g blocks n new)

  tree_then : tree_of g (with_record g blocks n new) ≡ tree_of g blocks
  tree_then = tree_kept g blocks (with_record g blocks n new) n new ok laid within group (record_beside g blocks n new) (record_there g blocks n new)

  -- the content of a store with the same blocks
  module _ (now : Blocks) (same : (b : ℕ) → b < blocks_of g → now b ≡ with_record g blocks n new b) where
    laid_then : IsLaid g (reading_of g (with_record g blocks n new))
    laid_then = laid_by_inodes g r (reading_of g (with_record g blocks n new)) (ap (λ (x : Reading). x.inodes) reading_then) laid

    reading_now : reading_of g now ≡ after
    reading_now = same_reading g (with_record g blocks n new) now ok laid_then same ∙ reading_then

    tree_now : tree_of g now ≡ tree_of g blocks
    tree_now = same_tree g (with_record g blocks n new) now ok laid_then same ∙ tree_then

    -- it stands for the same tree, with the hands that it is stored with
    pub stands_again : (tree : Tree) (hands others : List Hand) → (IsStored g r hands → IsStored g after others) → StandsFor g blocks tree hands → StandsFor g now tree others
    stands_again tree hands others stored stands =
        let parts = (in_parts g blocks hands).0 stands.sound in
        let links : HasRightLinks after = links_same g r after.groups parts.2 in
        record {
          sound = (in_parts g now others).1 (
            subst (λ (x : Reading). IsStored g x others) (sym reading_now) (stored parts.0),
            subst (λ (t : Tree). IsRightTree g t) (sym tree_now) parts.1,
            subst (λ (x : Reading). HasRightLinks x) (sym reading_now) links,
          );
          stands = tree_now ∙ stands.stands;
        }

not_both : (bit : Bool) → (not bit && bit) ≡ false
not_both true = refl
not_both false = refl

not_either : (bit : Bool) → (bit && not bit) ≡ false
not_either true = refl
not_either false = refl

-- the bits of a content in which that of one held block was cleared, or none
pub one_cleared : (g : Geometry) (before after : Reading) (b : ℕ) → block_bit g before b ≡ true → block_bit g after b ≡ false
    → ((c : ℕ) → is_body g c ≡ true → c ≢ b → block_bit g after c ≡ block_bit g before c) → HasBitsOf g (λ c. false) (λ c. is_among c (b ∷ [])) before after
one_cleared g before after b set clear same = record {
  set = λ c body. elim (cases_eq c b) [
    | inl here ↦ and_right (not (block_bit g before c)) (block_bit g after c) (ap (block_bit g after) here ∙ clear)
    | inr away ↦ ap (λ (t : Bool). not (block_bit g before c) && t) (same c body away) ∙ not_both (block_bit g before c)
  ];
  cleared = λ c body. elim (cases_eq c b) [
    | inl here ↦
        and_from (block_bit g before c) (not (block_bit g after c)) (ap (block_bit g before) here ∙ set) (not_from_false (block_bit g after c) (ap (block_bit g after) here ∙ clear))
        ∙ sym (or_left (b == c) false (eq-eqb b c (sym here)))
    | inr away ↦
        ap (λ (t : Bool). block_bit g before c && not t) (same c body away) ∙ not_either (block_bit g before c)
        ∙ sym (or_from (b == c) false (ne_eqb b c (λ here. away (sym here))) refl)
  ];
}

pub none_cleared : (g : Geometry) (before later : Reading) → ((c : ℕ) → block_bit g later c ≡ block_bit g before c) → HasBitsOf g (λ c. false) (λ c. is_among c []) before later
none_cleared g before later same = record {
  set = λ c body. ap (λ (t : Bool). not (block_bit g before c) && t) (same c) ∙ not_both (block_bit g before c);
  cleared = λ c body. ap (λ (t : Bool). block_bit g before c && not t) (same c) ∙ not_either (block_bit g before c);
}
