-- Names that make a tree still do where one directory changes, and an inode that is none, in the ways that these lemmas ask for.
use Rattle.std.proofs.Common.{◌≡◌, ◌≢◌, ◌<◌, ℕ, zero, suc, ◌==◌, Bool, true, false, not, ◌&&◌, List, [], ◌∷◌, length, map, Option, Some, refl, sym, ap, inl, inr, ◌∙◌, bytes_eq}
use Rattle.std.proofs.lemmas.Bool.{cases_eq, and_parts, and_from, and_cases, true≢false, eqb-true, not_from_false, not-true, not-false}
use Rattle.std.specs.Prelude.{is_some, if◌then◌else◌}
use Rattle.std.specs.List.{list_any, filter, flat_map, range_with_len}
use Rattle.volume_model.specs.declared.directory.Slot.{Slot}
use Rattle.volume_model.specs.Sound.{Names, MakeATree, dot, dot_dot, is_used_in, is_directory_in, slots_at, entries_at, parent_at, begins_right, has_twice, has_bad_slots, names_unused, namers_of, ancestor_of, leads_to_root, has_right_parent, has_bad_parent}
use Rattle.history_rules.proofs.SlotRuleLaws.{const_map, in_use, entries_of}
use Rattle.history_rules.proofs.RightNameLaws.{directory_of, slots_from, parent_in, slots_none}

-- the row begins right, and its second slot names this inode
abbrev pub BeginsAs : (dir parent : ℕ) → List Slot → Type 0
BeginsAs dir parent slots = (begins_right dir slots ≡ true) × (parent_in slots ≡ parent)

-- the slots of a directory that begins right, with those before it
pub begin_parts : (dir : ℕ) (s t : Slot) (more : List Slot) → begins_right dir (s ∷ (t ∷ more)) ≡ true
    → (bytes_eq s.name dot ≡ true) × (s.len ≡ 12) × (s.ino ≡ dir) × (bytes_eq t.name dot_dot ≡ true)
begin_parts dir s t more is =
    let a : Bool = bytes_eq s.name dot in
    let b : Bool = s.len == 12 in
    let c : Bool = s.ino == dir in
    let d : Bool = bytes_eq t.name dot_dot in
    let all = all_four a b c d is in
    (all.0, eqb-true s.len 12 all.1, eqb-true s.ino dir all.2, all.3)
  where
    all_four : (a b c d : Bool) → (a && b && c && d) ≡ true → (a ≡ true) × (b ≡ true) × (c ≡ true) × (d ≡ true)
    all_four true true true d is = (refl, refl, refl, is)
    all_four true true false d is = absurd (true≢false (sym is))
    all_four true false c d is = absurd (true≢false (sym is))
    all_four false b c d is = absurd (true≢false (sym is))

-- steps up are the same where the second slots are
pub same_ancestor : (m after : Names) → ((k : ℕ) → parent_at after k ≡ parent_at m k) → (steps k : ℕ) → ancestor_of after steps k ≡ ancestor_of m steps k
same_ancestor m after same zero k = refl
same_ancestor m after same (suc steps) k = same_ancestor m after same steps (parent_at after k) ∙ ap (ancestor_of m steps) (same k)

pub same_leads : (n : ℕ) (m after : Names) → ((k : ℕ) → parent_at after k ≡ parent_at m k) → (k : ℕ) → leads_to_root n after k ≡ leads_to_root n m k
same_leads n m after same k = λ t. list_any (λ steps. same_ancestor m after same steps k t == 2) (range_with_len 0 n)

abbrev pub bad_by : Bool → ℕ → List Slot → Bool
bad_by d k slots = d && not (begins_right k slots && not (has_twice (in_use slots)))

pub good_parts : (d : Bool) (k : ℕ) (slots : List Slot) → d ≡ true → bad_by d k slots ≡ false → (begins_right k slots ≡ true) × (has_twice (in_use slots) ≡ false)
good_parts d k slots is good = elim (and_cases d (not (begins_right k slots && not (has_twice (in_use slots)))) good) [
  | inl fails ↦ absurd (true≢false (sym is ∙ fails))
  | inr fails ↦
      let both = and_parts (begins_right k slots) (not (has_twice (in_use slots))) (not-false (begins_right k slots && not (has_twice (in_use slots))) fails) in
      (both.0, not-true (has_twice (in_use slots)) both.1)
]

pub parts_good : (d : Bool) (k : ℕ) (slots : List Slot) → begins_right k slots ≡ true → has_twice (in_use slots) ≡ false → bad_by d k slots ≡ false
parts_good d k slots begins once =
    ap (λ (b : Bool). d && not b) (and_from (begins_right k slots) (not (has_twice (in_use slots))) begins (not_from_false (has_twice (in_use slots)) once)) ∙ with_false d
  where
    with_false : (d : Bool) → (d && false) ≡ false
    with_false true = refl
    with_false false = refl

-- One directory has other slots now, and one inode that is no directory may have come or gone.
module _ (n : ℕ) (m after : Names) (right : MakeATree n m) (dir i : ℕ) (xs ys : List Slot) (there : m dir ≡ Some (Some xs)) (now : after dir ≡ Some (Some ys)) (below : dir < n)
    (plain : is_directory_in m i ≡ false) (still_plain : is_directory_in after i ≡ false) (others : (k : ℕ) → k ≢ dir → k ≢ i → after k ≡ m k) where
  pub is_there : is_directory_in m dir ≡ true
  is_there = ap directory_of there

  pub was_slots : slots_at m dir ≡ xs
  was_slots = ap slots_from there

  pub now_slots : slots_at after dir ≡ ys
  now_slots = ap slots_from now

  same_directory : (k : ℕ) → is_directory_in after k ≡ is_directory_in m k
  same_directory k = elim (cases_eq k dir) [
    | inl at ↦ ap (is_directory_in after) at ∙ ap directory_of now ∙ sym is_there ∙ sym (ap (is_directory_in m) at)
    | inr apart ↦ elim (cases_eq k i) [
      | inl at ↦ ap (is_directory_in after) at ∙ still_plain ∙ sym plain ∙ sym (ap (is_directory_in m) at)
      | inr other ↦ ap directory_of (others k apart other)
    ]
  ]

  pub same_slots : (k : ℕ) → k ≢ dir → slots_at after k ≡ slots_at m k
  same_slots k apart = elim (cases_eq k i) [
    | inl at ↦ ap (slots_at after) at ∙ slots_none (after i) still_plain ∙ sym (slots_none (m i) plain) ∙ sym (ap (slots_at m) at)
    | inr other ↦ ap slots_from (others k apart other)
  ]

  -- an inode in use stays so, but maybe for the one
  pub still_used : (k : ℕ) → k ≢ i → is_used_in m k ≡ true → is_used_in after k ≡ true
  still_used k other is = elim (cases_eq k dir) [
    | inl at ↦ ap (is_used_in after) at ∙ ap (λ (o : Option (Option (List Slot))). is_some o) now
    | inr apart ↦ ap (λ (o : Option (Option (List Slot))). is_some o) (others k apart other) ∙ is
  ]

  pub was_good : (begins_right dir xs ≡ true) × (has_twice (in_use xs) ≡ false)
  was_good = good_parts (is_directory_in m dir) dir xs is_there (ap (bad_by (is_directory_in m dir) dir) (sym was_slots) ∙ right.slots dir below)

  pub parent_was : parent_at m dir ≡ parent_in xs
  parent_was = ap parent_in was_slots

  pub was_used : list_any (λ s. not (is_used_in m s.ino)) (in_use xs) ≡ false
  was_used = ap (λ (slots : List Slot). list_any (λ s. not (is_used_in m s.ino)) (in_use slots)) (sym was_slots) ∙ right.used dir below

  module _ (begins : BeginsAs dir (parent_in xs) ys) (once : has_twice (in_use ys) ≡ false) (used : (k : ℕ) → k < n → names_unused after k ≡ false)
      (entries : (k : ℕ) → k ≢ i → length (filter (λ s. s.ino == k) (entries_of ys)) ≡ length (filter (λ s. s.ino == k) (entries_of xs))) where
    now_good : (k : ℕ) → k < n → has_bad_slots after k ≡ false
    now_good k less = elim (cases_eq k dir) [
      | inl at ↦
          ap (has_bad_slots after) at ∙ ap (bad_by (is_directory_in after dir) dir) now_slots
          ∙ parts_good (is_directory_in after dir) dir ys begins.0 once
      | inr apart ↦ (λ t. bad_by (same_directory k t) k (same_slots k apart t)) ∙ right.slots k less
    ]

    same_parent : (k : ℕ) → parent_at after k ≡ parent_at m k
    same_parent k = elim (cases_eq k dir) [
      | inl at ↦ ap (parent_at after) at ∙ ap parent_in now_slots ∙ begins.1 ∙ sym parent_was ∙ sym (ap (parent_at m) at)
      | inr apart ↦ ap parent_in (same_slots k apart)
    ]

    -- how often a directory names another one
    same_namers_in : (k : ℕ) → k ≢ i → (j : ℕ) → map (λ s. j) (filter (λ s. s.ino == k) (entries_at after j)) ≡ map (λ s. j) (filter (λ s. s.ino == k) (entries_at m j))
    same_namers_in k other j = elim (cases_eq j dir) [
      | inl at ↦
          let count : List Slot → ℕ = λ slots. length (filter (λ s. s.ino == k) (entries_of slots)) in
          const_map j (filter (λ s. s.ino == k) (entries_at after j)) (filter (λ s. s.ino == k) (entries_at m j))
          (ap count (ap (slots_at after) at ∙ now_slots) ∙ entries k other ∙ sym (ap count (ap (slots_at m) at ∙ was_slots)))
      | inr apart ↦ ap (λ (slots : List Slot). map (λ s. j) (filter (λ s. s.ino == k) (entries_of slots))) (same_slots j apart)
    ]

    same_namers : (k : ℕ) → k ≢ i → namers_of n after k ≡ namers_of n m k
    same_namers k other = λ t. flat_map (λ j. same_namers_in k other j t) (range_with_len 0 n)

    same_right : (k : ℕ) → k ≢ i → has_right_parent n after k ≡ has_right_parent n m k
    same_right k other =
        λ t. if k == 2 then bytes_eq (same_namers k other t) [] && same_parent k t == 2
        else bytes_eq (same_namers k other t) (same_parent k t ∷ []) && same_leads n m after same_parent k t

    now_parents : (k : ℕ) → k < n → has_bad_parent n after k ≡ false
    now_parents k less = elim (cases_eq k i) [
      | inl at ↦ ap (λ (d : Bool). d && not (has_right_parent n after k)) (ap (is_directory_in after) at ∙ still_plain)
      | inr other ↦ (λ t. same_directory k t && not (same_right k other t)) ∙ right.parents k less
    ]

    pub changed_right : MakeATree n after
    changed_right = record { root = same_directory 2 ∙ right.root; slots = now_good; used = used; parents = now_parents }
