-- What holds of names that make a tree, and that they still do once a name of an inode that is no directory is entered.
use Rattle.std.proofs.Common.{◌≡◌, ◌≢◌, ◌<◌, ℕ, ◌+◌, ◌==◌, Bool, true, false, not, ◌&&◌, ◌||◌, cond, List, [], ◌∷◌, length, Option, Some, None, refl, sym, ap, inl, inr, ◌∙◌, arith, bytes_eq}
use Rattle.std.proofs.lemmas.Bool.{cases_Bool, and_parts, and_cases, true≢false, eqb-true, not-false}
use Rattle.std.proofs.lemmas.Slice.Eq.{bytes_eq-Decides}
use Rattle.std.specs.Prelude.{is_some, unwrap_or, slice_get, if◌then◌else◌}
use Rattle.std.specs.List.{filter}
use Rattle.std.specs.Option.{option_map_or}
use Rattle.volume_model.specs.declared.directory.Slot.{Slot}
use Rattle.volume_model.specs.Sound.{Names, MakeATree, dot, dot_dot, is_directory_in, slots_at, entries_at, parent_at, namers_of, leads_to_root, has_right_parent}
use Rattle.history_rules.proofs.NameLaws.{named, none_in}
use Rattle.history_rules.proofs.EnterLaws.{slot_sum}
use Rattle.history_rules.proofs.SlotRuleLaws.{first_namer, sum_none, of_name, of_entry, entries_of, count_entries}
use Rattle.std.proofs.lemmas.List.Sums.{sum_by-cons}

-- of what there is of names at a number: whether it is a directory, and its slots
abbrev pub directory_of : Option (Option (List Slot)) → Bool
directory_of o = option_map_or is_some o false

abbrev pub slots_from : Option (Option (List Slot)) → List Slot
slots_from o = option_map_or (λ slots. unwrap_or slots []) o []

-- the inode of the second slot
abbrev pub parent_in : List Slot → ℕ
parent_in slots = option_map_or (λ s. s.ino) (slice_get slots 1) 0

pub slots_none : (o : Option (Option (List Slot))) → directory_of o ≡ false → slots_from o ≡ []
slots_none None is = refl
slots_none (Some None) is = refl
slots_none (Some (Some slots)) is = absurd (true≢false is)

both_good : (d b : Bool) → d ≡ true → (d && not b) ≡ false → b ≡ true
both_good d b is none = elim (and_cases d (not b) none) [
  | inl fails ↦ absurd (true≢false (sym is ∙ fails))
  | inr fails ↦ not-false b fails
]

abbrev pub entry_by : (a b c : Bool) → ℕ
entry_by a b c = cond a (cond b (cond c 1 0) 0) 0

entry_none : (a b : Bool) → entry_by a b false ≡ 0
entry_none true true = refl
entry_none true false = refl
entry_none false b = refl

pub entry_other : (k ino : ℕ) (name : List ℕ) → (ino == k) ≡ false → of_entry k ino name ≡ 0
entry_other k ino name fails =
    ap (λ (c : Bool). entry_by (not (ino == 0)) (not (bytes_eq name dot || bytes_eq name dot_dot)) c) fails
    ∙ entry_none (not (ino == 0)) (not (bytes_eq name dot || bytes_eq name dot_dot))

entry_zero : (ino : ℕ) (name : List ℕ) → of_entry 0 ino name ≡ 0
entry_zero ino name = elim (cases_Bool (ino == 0)) [
  | inl free ↦ ap (λ (a : Bool). entry_by (not a) (not (bytes_eq name dot || bytes_eq name dot_dot)) (ino == 0)) free
  | inr taken ↦ entry_other 0 ino name taken
]

module _ (n : ℕ) (m : Names) (right : MakeATree n m) where
  pub right_parent : (k : ℕ) → k < n → is_directory_in m k ≡ true → has_right_parent n m k ≡ true
  right_parent k below is = both_good (is_directory_in m k) (has_right_parent n m k) is (right.parents k below)

  abbrev namers_in : (k j : ℕ) → List Slot
  namers_in k j = filter (λ s. s.ino == k) (entries_at m j)

  -- the one above a directory other than the root names it
  pub parent_names : (k : ℕ) → k < n → is_directory_in m k ≡ true → (k == 2) ≡ false → (0 < length (namers_in k (parent_at m k))) × (parent_at m k < 0 + n)
  parent_names k below is other =
      let by : Bool → Bool = λ b. if b then bytes_eq (namers_of n m k) [] && parent_at m k == 2 else bytes_eq (namers_of n m k) (parent_at m k ∷ []) && leads_to_root n m k in
      let holds : by false ≡ true = sym (ap by other) ∙ right_parent k below is in
      let both = and_parts (bytes_eq (namers_of n m k) (parent_at m k ∷ [])) (leads_to_root n m k) holds in
      first_namer (namers_in k) n 0 (parent_at m k) [] ((bytes_eq-Decides (namers_of n m k) (parent_at m k ∷ [])).0 both.0)

  pub no_zero : 0 < n → is_directory_in m 0 ≡ true → ⊥
  no_zero below is =
      let named = parent_names 0 below is refl in
      let none : slot_sum (of_entry 0) (slots_at m (parent_at m 0)) ≡ 0 = sum_none (λ (s : Slot). of_entry 0 s.ino s.name) (λ s. entry_zero s.ino s.name) (slots_at m (parent_at m 0)) in
      omega (arith, named.0, count_entries 0 (slots_at m (parent_at m 0)), none)

  -- the one above a directory is one
  pub parent_is : (k : ℕ) → k < n → is_directory_in m k ≡ true → (k == 2) ≡ false → is_directory_in m (parent_at m k) ≡ true
  parent_is k below is other = elim (cases_Bool (is_directory_in m (parent_at m k))) [
    | inl holds ↦ holds
    | inr fails ↦ absurd (
        let named = parent_names k below is other in
        let none : namers_in k (parent_at m k) ≡ [] = ap (λ (slots : List Slot). filter (λ s. s.ino == k) (entries_of slots)) (slots_none (m (parent_at m k)) fails) in
        omega (arith, named.0, ap length none)
        )
  ]

  -- the root is above itself
  pub root_above : (k : ℕ) → k < n → is_directory_in m k ≡ true → (k == 2) ≡ true → parent_at m k ≡ 2
  root_above k below is root =
      let by : Bool → Bool = λ b. if b then bytes_eq (namers_of n m k) [] && parent_at m k == 2 else bytes_eq (namers_of n m k) (parent_at m k ∷ []) && leads_to_root n m k in
      let holds : by true ≡ true = sym (ap by root) ∙ right_parent k below is in
      let both = and_parts (bytes_eq (namers_of n m k) []) (parent_at m k == 2) holds in
      eqb-true (parent_at m k) 2 both.1

  pub parent_directory : (k : ℕ) → k < n → is_directory_in m k ≡ true → is_directory_in m (parent_at m k) ≡ true
  parent_directory k below is = elim (cases_Bool (k == 2)) [
    | inl root ↦ ap (is_directory_in m) (root_above k below is root) ∙ right.root
    | inr other ↦ parent_is k below is other
  ]

  pub parent_below : (k : ℕ) → k < n → is_directory_in m k ≡ true → parent_at m k < n
  parent_below k less is = elim (cases_Bool (k == 2)) [
    | inl root ↦ let two : k ≡ 2 = eqb-true k 2 root in let at = root_above k less is root in omega (arith, at, two, less)
    | inr other ↦ let names = parent_names k less is other in omega (arith, names.1)
  ]

  pub parent_used : (k : ℕ) → k < n → is_directory_in m k ≡ true → parent_at m k ≢ 0
  parent_used k below is zero_is = no_zero (omega arith) (ap (is_directory_in m) (sym zero_is) ∙ parent_directory k below is)

abbrev pub name_by : (a b : Bool) → ℕ
name_by a b = cond a (cond b 1 0) 0

no_name : (a b : Bool) → (a && b) ≡ false → name_by a b ≡ 0
no_name true true is = absurd (true≢false is)
no_name true false is = refl
no_name false b is = refl

-- a name that isn't found is the name of no slot in use
pub none_so : (name : List ℕ) (xs : List Slot) → named xs name ≡ None → slot_sum (of_name name) xs ≡ 0
none_so name [] none = refl
none_so name (s ∷ xs) none =
    let parts = none_in s xs name none in
    let here : of_name name s.ino s.name ≡ 0 = no_name (not (s.ino == 0)) (bytes_eq s.name name) parts.0 in
    omega (arith, sum_by-cons (λ (t : Slot). of_name name t.ino t.name) s xs, here, none_so name xs parts.1)
