-- Blocks that are given up, divided by their groups.
use Rattle.std.proofs.Common.{◌≡◌, ◌<◌, ◌≤◌, inl, inr, ℕ, ◌+◌, ◌*◌, eqb, Bool, true, false, not, ◌&&◌, cond, List, [], ◌∷◌, ◌++◌, map, Option, Some, None, IfSome, refl, sym, ap, ◌∙◌, arith}
use Rattle.std.specs.Prelude.{All, ◌==◌, nat_lt, if◌then◌else◌}
use Rattle.std.specs.List.{filter, count_by}
use Rattle.std.specs.Option.{option_map}
use Rattle.std.proofs.lemmas.Bool.{cases_order, eq-eqb, ne_eqb, lt-ltb, le-ltb, and_from, and_right, not_from_true, not_from_false, cond-true, cond-false}
use Rattle.std.proofs.Math.Nat.{div-lt_iff_lt-mul}
use Rattle.std.proofs.lemmas.List.Elements.{All-head, All-tail}
use Rattle.std.proofs.lemmas.List.Sums.{sum_by-cons}
use Rattle.lufs_base.specs.Layout.{IsGeometry}
use Rattle.lufs_base.specs.declared.geometry.Geometry.{Geometry}
use Rattle.lufs_base.specs.declared.numbers.Ino.{Ino}
use Rattle.volume_model.specs.declared.hand.Hand.{Hand}
use Rattle.volume_model.specs.Format.{is_body, inodes_of}
use Rattle.volume_model.specs.Sound.{held_inodes, held_blocks}
use Rattle.volume_laws.proofs.Counting.{one_if}
use Rattle.change_laws.specs.Hands.{times, HoldTheSame}
use Rattle.change_laws.specs.Marks.{group_of_inode, group_of_block}
use Rattle.change_laws.proofs.Counts.{times-append, times-cons}
use Rattle.meta_store.specs.declared.change.Freed.{Freed}
use Rattle.meta_store.proofs.FreeBlocks.{in_a_group}
use Rattle.file_map.specs.Freed.{hand_of, is_block_of, inode_in, metadata_among}

-- a block of group n or a later one
abbrev pub is_from : Geometry → (n : ℕ) → Freed → Bool
is_from g n f = not (nat_lt (group_of_block g f.block.0) n)

-- the blocks of group n, and those of group n and later ones
abbrev pub share : Geometry → (n : ℕ) → List Freed → List Freed
share g n freed = filter (is_block_of g n) freed

abbrev pub rest : Geometry → (n : ℕ) → List Freed → List Freed
rest g n freed = filter (is_from g n) freed

-- the inode, if it is of group n or a later one
abbrev pub inode_from : Geometry → (n : ℕ) → Option Ino → Option Ino
inode_from g n None = None
inode_from g n (Some i) = if nat_lt (group_of_inode g i.0) n then None else Some i

abbrev pub numbers : List Freed → List ℕ
numbers freed = map (λ f. f.block.0) freed

-- how often a number stands among the blocks
times_by : (b : ℕ) (freed : List Freed) → times b (numbers freed) ≡ count_by (λ f. f.block.0 == b) freed
times_by b [] = refl
times_by b (f ∷ freed) =
    omega (arith, times-cons b f.block.0 (numbers freed), times_by b freed, sum_by-cons (λ (f : Freed). one_if (f.block.0 == b)) f freed)

-- one block more, of which those that pass are counted
counted : (q p : Freed → Bool) (f : Freed) (freed : List Freed) → count_by q (filter p (f ∷ freed)) ≡ (if p f then one_if (q f) else 0) + count_by q (filter p freed)
counted q p f freed = elim (p f) as (λ t. count_by q (cond t (f ∷ filter p freed) (filter p freed)) ≡ (if t then one_if (q f) else 0) + count_by q (filter p freed)) [
  | true ↦ sum_by-cons (λ (f : Freed). one_if (q f)) f (filter p freed)
  | false ↦ omega arith
]

-- of one block, what it counts in its share and in what comes later
one_divided : (k n w : ℕ) (body : Bool) → (if body && k == n then w else 0) + (if not (nat_lt k (n + 1)) then w else 0) ≤ (if not (nat_lt k n) then w else 0)
one_divided k n w body = elim (cases_order k n) [
  | inl same ↦
      let from : not (nat_lt k n) ≡ true = not_from_false (nat_lt k n) (le-ltb k n (omega (arith, same))) in
      let past : not (nat_lt k (n + 1)) ≡ false = not_from_true (nat_lt k (n + 1)) (lt-ltb k (n + 1) (omega (arith, same))) in
      let own : (if body && k == n then w else 0) ≤ w = elim (body && k == n) as (λ t. (if t then w else 0) ≤ w) [ true ↦ omega arith | false ↦ omega arith ] in
      omega (arith, own, cond-true (not (nat_lt k n)) w 0 from, cond-false (not (nat_lt k (n + 1))) w 0 past)
  | inr other ↦ elim other [
    | inl before ↦
        let past : not (nat_lt k (n + 1)) ≡ false = not_from_true (nat_lt k (n + 1)) (lt-ltb k (n + 1) (omega (arith, before))) in
        let own : (body && k == n) ≡ false = and_right body (k == n) (ne_eqb k n (λ same. omega (arith, same, before))) in
        omega (arith, cond-false (body && k == n) w 0 own, cond-false (not (nat_lt k (n + 1))) w 0 past)
    | inr after ↦
        let from : not (nat_lt k n) ≡ true = not_from_false (nat_lt k n) (le-ltb k n (omega (arith, after))) in
        let past : not (nat_lt k (n + 1)) ≡ true = not_from_false (nat_lt k (n + 1)) (le-ltb k (n + 1) (omega (arith, after))) in
        let own : (body && k == n) ≡ false = and_right body (k == n) (ne_eqb k n (λ same. omega (arith, same, after))) in
        omega (arith, cond-false (body && k == n) w 0 own, cond-true (not (nat_lt k n)) w 0 from, cond-true (not (nat_lt k (n + 1))) w 0 past)
  ]
]

-- and a body block in no other
body_divided : (k n w : ℕ) (body : Bool) → body ≡ true → (if not (nat_lt k n) then w else 0) ≡ (if body && k == n then w else 0) + (if not (nat_lt k (n + 1)) then w else 0)
body_divided k n w body is = elim (cases_order k n) [
  | inl same ↦
      let from : not (nat_lt k n) ≡ true = not_from_false (nat_lt k n) (le-ltb k n (omega (arith, same))) in
      let past : not (nat_lt k (n + 1)) ≡ false = not_from_true (nat_lt k (n + 1)) (lt-ltb k (n + 1) (omega (arith, same))) in
      let own : (body && k == n) ≡ true = and_from body (k == n) is (eq-eqb k n same) in
      omega (arith, cond-true (body && k == n) w 0 own, cond-true (not (nat_lt k n)) w 0 from, cond-false (not (nat_lt k (n + 1))) w 0 past)
  | inr other ↦ elim other [
    | inl before ↦
        let from : not (nat_lt k n) ≡ false = not_from_true (nat_lt k n) (lt-ltb k n before) in
        omega (arith, one_divided k n w body, cond-false (not (nat_lt k n)) w 0 from)
    | inr after ↦
        let from : not (nat_lt k n) ≡ true = not_from_false (nat_lt k n) (le-ltb k n (omega (arith, after))) in
        let past : not (nat_lt k (n + 1)) ≡ true = not_from_false (nat_lt k (n + 1)) (le-ltb k (n + 1) (omega (arith, after))) in
        let own : (body && k == n) ≡ false = and_right body (k == n) (ne_eqb k n (λ same. omega (arith, same, after))) in
        omega (arith, cond-false (body && k == n) w 0 own, cond-true (not (nat_lt k n)) w 0 from, cond-true (not (nat_lt k (n + 1))) w 0 past)
  ]
]

module _ (g : Geometry) where
  few_divided : (q : Freed → Bool) (n : ℕ) (freed : List Freed) → count_by q (share g n freed) + count_by q (rest g (n + 1) freed) ≤ count_by q (rest g n freed)
  few_divided q n [] = omega arith
  few_divided q n (f ∷ freed) =
      let k = group_of_block g f.block.0 in
      omega (
        arith,
        counted q (is_block_of g n) f freed,
        counted q (is_from g n) f freed,
        counted q (is_from g (n + 1)) f freed,
        one_divided k n (one_if (q f)) (is_body g f.block.0),
        few_divided q n freed,
      )

  all_divided : (q : Freed → Bool) (n : ℕ) (freed : List Freed) → All (λ f. is_body g f.block.0 ≡ true) freed
      → count_by q (rest g n freed) ≡ count_by q (share g n freed) + count_by q (rest g (n + 1) freed)
  all_divided q n [] body = refl
  all_divided q n (f ∷ freed) body =
      let k = group_of_block g f.block.0 in
      omega (
        arith,
        counted q (is_block_of g n) f freed,
        counted q (is_from g n) f freed,
        counted q (is_from g (n + 1)) f freed,
        body_divided k n (one_if (q f)) (is_body g f.block.0) (All-head (λ f. is_body g f.block.0 ≡ true) f freed body),
        all_divided q n freed (All-tail (λ f. is_body g f.block.0 ≡ true) f freed body),
      )

  -- the blocks that held metadata
  pub metadata_divided : (n : ℕ) (freed : List Freed) → metadata_among (share g n freed) + metadata_among (rest g (n + 1) freed) ≤ metadata_among (rest g n freed)
  metadata_divided n freed = few_divided (λ f. f.meta) n freed

  -- how often a number stands in them
  blocks_divided : (b n : ℕ) (freed : List Freed) → All (λ f. is_body g f.block.0 ≡ true) freed
      → times b (numbers (rest g n freed)) ≡ times b (numbers (share g n freed)) + times b (numbers (rest g (n + 1) freed))
  blocks_divided b n freed body =
      omega (
        arith,
        times_by b (rest g n freed),
        times_by b (share g n freed),
        times_by b (rest g (n + 1) freed),
        all_divided (λ f. f.block.0 == b) n freed body,
      )

  inode_divided : (n i : ℕ) (inode : Option Ino) (hands : List Hand) → (here there later : List Freed)
      → times i (held_inodes (hand_of (inode_in g n inode) here ∷ (hand_of (inode_from g (n + 1) inode) there ∷ hands))) ≡ times i (held_inodes (hand_of (inode_from g n inode) later ∷ hands))
  inode_divided n i None hands here there later = refl
  inode_divided n i (Some j) hands here there later =
      let k = group_of_inode g j.0 in
      let held : Bool → Bool → List ℕ = λ mine before.
      held_inodes (hand_of (if mine then Some j else None) here ∷ (hand_of (if before then None else Some j) there ∷ hands)) in
      let from : Bool → List ℕ = λ before. held_inodes (hand_of (if before then None else Some j) later ∷ hands) in
      elim (cases_order k n) [
        | inl same ↦
            ap (λ (t : Bool). times i (held t (nat_lt k (n + 1)))) (eq-eqb k n same)
            ∙ ap (λ (t : Bool). times i (held true t)) (lt-ltb k (n + 1) (omega (arith, same)))
            ∙ sym (ap (λ (t : Bool). times i (from t)) (le-ltb k n (omega (arith, same))))
        | inr other ↦ elim other [
          | inl before ↦
              ap (λ (t : Bool). times i (held t (nat_lt k (n + 1)))) (ne_eqb k n (λ same. omega (arith, same, before)))
              ∙ ap (λ (t : Bool). times i (held false t)) (lt-ltb k (n + 1) (omega (arith, before)))
              ∙ sym (ap (λ (t : Bool). times i (from t)) (lt-ltb k n before))
          | inr after ↦
              ap (λ (t : Bool). times i (held t (nat_lt k (n + 1)))) (ne_eqb k n (λ same. omega (arith, same, after)))
              ∙ ap (λ (t : Bool). times i (held false t)) (le-ltb k (n + 1) (omega (arith, after)))
              ∙ sym (ap (λ (t : Bool). times i (from t)) (le-ltb k n (omega (arith, after))))
        ]
      ]

  -- what is held of group n and later ones, and what is of it
  pub hand_divided : (n : ℕ) (inode : Option Ino) (freed : List Freed) (hands : List Hand) → All (λ f. is_body g f.block.0 ≡ true) freed
      → HoldTheSame (hand_of (inode_from g n inode) (rest g n freed) ∷ hands)
      (hand_of (inode_in g n inode) (share g n freed) ∷ (hand_of (inode_from g (n + 1) inode) (rest g (n + 1) freed) ∷ hands))
  hand_divided n inode freed hands body = record {
    blocks = λ b.
        let here = numbers (share g n freed) in
        let there = numbers (rest g (n + 1) freed) in
        omega (
          arith,
          blocks_divided b n freed body,
          times-append b (numbers (rest g n freed)) (held_blocks hands),
          times-append b here (there ++ held_blocks hands),
          times-append b there (held_blocks hands),
        );
    inodes = λ i. inode_divided n i inode hands (share g n freed) (rest g (n + 1) freed) (rest g n freed);
  }

  -- at the beginning all are left
  pub all_left : (freed : List Freed) → rest g 0 freed ≡ freed
  all_left [] = refl
  all_left (f ∷ freed) =
      let here : is_from g 0 f ≡ true = not_from_false (nat_lt (group_of_block g f.block.0) 0) (le-ltb (group_of_block g f.block.0) 0 (omega arith)) in
      ap (λ (t : Bool). cond t (f ∷ rest g 0 freed) (rest g 0 freed)) here ∙ ap (λ (l : List Freed). f ∷ l) (all_left freed)

  pub inode_left : (inode : Option Ino) → inode_from g 0 inode ≡ inode
  inode_left None = refl
  inode_left (Some i) = ap (λ (t : Bool). if t then None else Some i) (le-ltb (group_of_inode g i.0) 0 (omega arith))

  -- and at the end none
  pub none_left : IsGeometry g → (freed : List Freed) → All (λ f. is_body g f.block.0 ≡ true) freed → rest g g.groups freed ≡ []
  none_left ok [] body = refl
  none_left ok (f ∷ freed) body =
      let is = All-head (λ f. is_body g f.block.0 ≡ true) f freed body in
      let here : is_from g g.groups f ≡ false = not_from_true (nat_lt (group_of_block g f.block.0) g.groups) (lt-ltb (group_of_block g f.block.0) g.groups (in_a_group g ok f.block.0 is)) in
      ap (λ (t : Bool). cond t (f ∷ rest g g.groups freed) (rest g g.groups freed)) here ∙ none_left ok freed (All-tail (λ f. is_body g f.block.0 ≡ true) f freed body)

  pub no_inode_left : IsGeometry g → (inode : Option Ino) → IfSome inode (λ i. i.0 < inodes_of g) → inode_from g g.groups inode ≡ None
  no_inode_left ok None within = refl
  no_inode_left ok (Some i) within =
      let inside : group_of_inode g i.0 < g.groups = (div-lt_iff_lt-mul {k = g.ipg} (omega (arith, ok.ipg_low))).1 within in
      ap (λ (t : Bool). if t then None else Some i) (lt-ltb (group_of_inode g i.0) g.groups inside)

-- an empty hand holds nothing
pub empty_hand : (hands : List Hand) → HoldTheSame (hand_of None [] ∷ hands) hands
empty_hand hands = record { blocks = λ b. refl; inodes = λ i. refl }
