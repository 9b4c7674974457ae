-- The bits of a hand cleared in the record of its group, one after the other.
use Rattle.std.proofs.Common.{◌≡◌, ◌≢◌, ◌<◌, ◌≤◌, inl, inr, ℕ, ◌+◌, ◌-◌, ◌*◌, ◌/◌, ◌%◌, Bool, true, false, ◌||◌, List, [], ◌∷◌, ◌++◌, length, map, take, get_or, Option, Some, None, refl, sym, ap, ◌∙◌, subst, arith}
use Rattle.std.specs.Prelude.{◌==◌, nat_lt, if◌then◌else◌}
use Rattle.std.proofs.Math.Nat.{div-add-mod'}
use Rattle.std.proofs.lemmas.Bool.{cases_eq, cases_lt, eq-eqb, ne_eqb, both_ways, ltb-true}
use Rattle.std.specs.Option.{option_map}
use Rattle.std.proofs.lemmas.List.{take_more, map-append}
use Rattle.std.proofs.lemmas.List.Folds.{list_any-append}
use Rattle.lufs_base.specs.Layout.{IsGeometry, group_start}
use Rattle.lufs_base.specs.declared.geometry.Geometry.{Geometry}
use Rattle.lufs_base.specs.declared.numbers.Ino.{Ino}
use Rattle.volume_model.specs.declared.hand.Hand.{Hand}
use Rattle.volume_model.specs.Format.{GroupRecord, bit_at, is_body, HasBit}
use Rattle.volume_model.specs.Sound.{held_inodes, is_among}
use Rattle.volume_laws.proofs.BodyBlocks.{none_before, body_at}
use Rattle.change_laws.specs.Hands.{one_block, one_inode}
use Rattle.change_laws.specs.Marks.{group_of_inode, group_of_block, place_of_block, HasHandPut}
use Rattle.meta_store.specs.declared.change.Freed.{Freed}
use Rattle.meta_store.proofs.FreeBlocks.{in_a_group}
use Rattle.file_map.specs.Freed.{hand_of}

-- a bit of one member, at its place
bit_of_one : (start place other n : ℕ) (old new : List ℕ) → n ≡ start + place → HasBit place false old new
    → bit_at new other ≡ (if is_among (start + other) (n ∷ []) then false else bit_at old other)
bit_of_one start place other n old new at put = elim (cases_eq other place) [
  | inl same ↦
      let is : (n == start + other) ≡ true = eq-eqb n (start + other) (omega (arith, same, at)) in
      ap (bit_at new) same ∙ put.bit ∙ sym (ap (λ (t : Bool). if (t || false) then false else bit_at old other) is)
  | inr away ↦
      let is : (n == start + other) ≡ false = ne_eqb n (start + other) (λ same. away (omega (arith, same, at))) in
      put.others other away ∙ sym (ap (λ (t : Bool). if (t || false) then false else bit_at old other) is)
]

-- a bit that is clear already
pub clear_before : (place : ℕ) (bits : List ℕ) → bit_at bits place ≡ false → HasBit place false bits bits
clear_before place bits clear = record { bit = clear; others = λ other away. refl }

-- a body block by its place in its group, which is past the records
module _ (g : Geometry) (b n : ℕ) (ok : IsGeometry g) (body : is_body g b ≡ true) (group : group_of_block g b ≡ n) where
  pub first_before : group_start g 0 ≤ b
  first_before = elim (cases_lt b (group_start g 0)) [
    | inl before ↦ absurd (both_ways (is_body g b) (none_before g ok b before) body)
    | inr after ↦ after
  ]

  pub at_place : group_start g n + place_of_block g b ≡ b
  at_place =
      let away = b - group_start g 0 in
      let mine : n * g.bpg + away % g.bpg ≡ away = ap (λ (k : ℕ). k * g.bpg + away % g.bpg) (sym group) ∙ div-add-mod' away g.bpg in
      omega (arith, mine, first_before)

  pub past_records : place_of_block g b < g.bpg → g.ipg / 32 < place_of_block g b
  past_records below =
      let place = place_of_block g b in
      let within : n < g.groups = subst (λ (k : ℕ). k < g.groups) group (in_a_group g ok b body) in
      ltb-true (g.ipg / 32) place (sym (body_at g ok n place within below) ∙ ap (is_body g) at_place ∙ body)

  -- where the code computed the place
  pub block_cleared : (first : ℕ) (old new : GroupRecord) → first ≡ group_start g 0 → HasBit ((b - first) % g.bpg) false old.block_bits new.block_bits
      → new.inode_bits ≡ old.inode_bits → HasHandPut g n false (one_block b) old new
  block_cleared first old new start bit same =
      let put : HasBit (place_of_block g b) false old.block_bits new.block_bits =
      subst (λ (k : ℕ). HasBit ((b - k) % g.bpg) false old.block_bits new.block_bits) start bit in
      record {
        inode_bits = λ other below. ap (λ (bits : List ℕ). bit_at bits other) same;
        block_bits = λ other below. bit_of_one (group_start g n) (place_of_block g b) other b old.block_bits new.block_bits (sym at_place) put;
      }

pub inode_at_place : (g : Geometry) (i n : ℕ) → group_of_inode g i ≡ n → n * g.ipg + i % g.ipg ≡ i
inode_at_place g i n group = ap (λ (k : ℕ). k * g.ipg + i % g.ipg) (sym group) ∙ div-add-mod' i g.ipg

pub inode_cleared : (g : Geometry) (i n : ℕ) (old new : GroupRecord) → group_of_inode g i ≡ n → HasBit (i % g.ipg) false old.inode_bits new.inode_bits
    → new.block_bits ≡ old.block_bits → HasHandPut g n false (one_inode i) old new
inode_cleared g i n old new group bit same = record {
  inode_bits = λ other below. bit_of_one (n * g.ipg) (i % g.ipg) other i old.inode_bits new.inode_bits (sym (inode_at_place g i n group)) bit;
  block_bits = λ other below. ap (λ (bits : List ℕ). bit_at bits other) same;
}

pub nothing_cleared : (g : Geometry) (n : ℕ) (old : GroupRecord) → HasHandPut g n false (record { inode = None; blocks = [] }) old old
nothing_cleared g n old = record { inode_bits = λ other below. refl; block_bits = λ other below. refl }

both_clear : (first last bit : Bool) → (if last then false else (if first then false else bit)) ≡ (if (first || last) then false else bit)
both_clear true true bit = refl
both_clear true false bit = refl
both_clear false true bit = refl
both_clear false false bit = refl

-- one block more
pub block_more : (g : Geometry) (n : ℕ) (inode : Option ℕ) (blocks : List ℕ) (b : ℕ) (old mid new : GroupRecord)
    → HasHandPut g n false (record { inode = inode; blocks = blocks }) old mid → HasHandPut g n false (one_block b) mid new
    → HasHandPut g n false (record { inode = inode; blocks = blocks ++ b ∷ [] }) old new
block_more g n inode blocks b old mid new first last = record {
  inode_bits = λ place below. last.inode_bits place below ∙ first.inode_bits place below;
  block_bits = λ place below.
      let at = group_start g n + place in
      let is = bit_at old.block_bits place in
      last.block_bits place below
      ∙ ap (λ (t : Bool). if is_among at (b ∷ []) then false else t) (first.block_bits place below)
      ∙ both_clear (is_among at blocks) (is_among at (b ∷ [])) is
      ∙ ap (λ (t : Bool). if t then false else is) (sym (list_any-append (λ m. m == at) blocks (b ∷ [])));
}

-- since a record with the same bits
pub put_since : (g : Geometry) (n m : ℕ) (hand : Hand) (mid old new : GroupRecord) → m ≡ n → mid.inode_bits ≡ old.inode_bits → mid.block_bits ≡ old.block_bits
    → HasHandPut g m false hand mid new → HasHandPut g n false hand old new
put_since g n m hand mid old new number inodes blocks put =
    let here = subst (λ (k : ℕ). HasHandPut g k false hand mid new) number put in
    record {
      inode_bits = λ place below.
          here.inode_bits place below ∙ ap (λ (bits : List ℕ). if is_among (n * g.ipg + place) (held_inodes (hand ∷ [])) then false else bit_at bits place) inodes;
      block_bits = λ place below.
          here.block_bits place below ∙ ap (λ (bits : List ℕ). if is_among (group_start g n + place) hand.blocks then false else bit_at bits place) blocks;
    }

-- the next block of a list
pub next_cleared : (g : Geometry) (n m : ℕ) (inode : Option Ino) (freed : List Freed) (k : ℕ) (d : Freed) (old mid new : GroupRecord) → k < length freed → m ≡ n
    → HasHandPut g n false (hand_of inode (take k freed)) old mid → HasHandPut g m false (one_block (get_or freed k d).block.0) mid new
    → HasHandPut g n false (hand_of inode (take (k + 1) freed)) old new
next_cleared g n m inode freed k d old mid new inside number first last =
    let b = (get_or freed k d).block.0 in
    let blocks : List Freed → List ℕ = λ l. map (λ f. f.block.0) l in
    let next : blocks (take (k + 1) freed) ≡ blocks (take k freed) ++ b ∷ [] =
    ap blocks (take_more freed k d inside) ∙ map-append (λ (f : Freed). f.block.0) (take k freed) (get_or freed k d ∷ []) in
    subst (λ (l : List ℕ). HasHandPut g n false (record { inode = option_map (λ i. i.0) inode; blocks = l }) old new) (sym next)
    (block_more g n (option_map (λ i. i.0) inode) (blocks (take k freed)) b old mid new first (subst (λ (j : ℕ). HasHandPut g j false (one_block b) mid new) number last))
