-- The rules of names that make a tree, by what the slots of each directory count: as many of each kind, and each directory
-- with the one above it.
use Rattle.std.proofs.Common.{◌≡◌, ◌≢◌, ◌≤◌, ◌<◌, ◌⊎◌, ℕ, zero, suc, ◌==◌, Bool, true, false, not, ◌&&◌, List, [], ◌∷◌, length, refl, sym, ap, subst, inl, inr, ◌∙◌, arith, bytes_eq}
use Rattle.std.proofs.lemmas.Bool.{cases_Bool, cases_eq, and_parts, and_from, eqb-true, eq-eqb, ne_eqb}
use Rattle.std.proofs.lemmas.Slice.Eq.{bytes_eq-Decides}
use Rattle.std.specs.Prelude.{if◌then◌else◌}
use Rattle.std.specs.List.{list_any, filter}
use Rattle.volume_model.specs.declared.directory.Slot.{Slot}
use Rattle.volume_model.specs.Sound.{Names, MakeATree, is_used_in, is_directory_in, slots_at, entries_at, parent_at, has_bad_slots, names_unused, namers_of, ancestor_of, leads_to_root, has_right_parent, has_bad_parent}
use Rattle.history_rules.proofs.EnterLaws.{slot_sum}
use Rattle.history_rules.proofs.SlotRuleLaws.{one_if, first_namer, twice_counts, counts_twice, of_name, of_entry, in_use, count_names, count_entries}
use Rattle.history_rules.proofs.RightNameLaws.{slots_none, right_parent, root_above, parent_directory, parent_below}
use Rattle.history_rules.proofs.ChangedRightLaws.{BeginsAs, bad_by, good_parts, parts_good}
use Rattle.history_rules.proofs.DroppedRightLaws.{none_namer, only_namer}
use Rattle.history_rules.proofs.StepsLaws.{any_in_range, in_range_any, in_few_steps}
use Rattle.history_rules.proofs.NewDirectoryLaws.{no_namers, single_namer}

-- what the slots of a directory weigh
abbrev pub sum_at : (ℕ → List ℕ → ℕ) → Names → ℕ → ℕ
sum_at v m k = slot_sum v (slots_at m k)

-- The directory above each is this one; only it names the directory, and once, but none names the root.
pub record IsCounted (n : ℕ) (m : Names) (up : ℕ → ℕ) : Type 0 where
  pub root : is_directory_in m 2 ≡ true
  pub begins : (k : ℕ) → k < n → is_directory_in m k ≡ true → BeginsAs k (up k) (slots_at m k)
  pub once : (k : ℕ) → k < n → is_directory_in m k ≡ true → (name : List ℕ) → sum_at (of_name name) m k ≤ 1
  pub used : (k : ℕ) → k < n → is_directory_in m k ≡ true → names_unused m k ≡ false
  pub top : (k : ℕ) → k < n → is_directory_in m k ≡ true → (k == 2) ≡ true → up k ≡ 2
  pub entries : (k j : ℕ) → k < n → j < n → is_directory_in m k ≡ true → sum_at (of_entry k) m j ≡ one_if (not (k == 2) && j == up k)
  pub above : (k : ℕ) → k < n → is_directory_in m k ≡ true → (is_directory_in m (up k) ≡ true) × (up k < n)
  pub leads : (k : ℕ) → k < n → is_directory_in m k ≡ true → (steps : ℕ) × (ancestor_of m steps k ≡ 2)

pub one_at : (k j p : ℕ) → (k == 2) ≡ false → j ≡ p → one_if (not (k == 2) && j == p) ≡ 1
one_at k j p other same = λ t. one_if (not (other t) && eq-eqb j p same t)

pub none_apart : (k j p : ℕ) → j ≢ p → one_if (not (k == 2) && j == p) ≡ 0
none_apart k j p apart = (λ t. one_if (not (k == 2) && ne_eqb j p apart t)) ∙ by_root (not (k == 2)) where
  by_root : (b : Bool) → one_if (b && false) ≡ 0
  by_root true = refl
  by_root false = refl

none_root : (k j p : ℕ) → (k == 2) ≡ true → one_if (not (k == 2) && j == p) ≡ 0
none_root k j p root = λ t. one_if (not (root t) && j == p)

module _ (n : ℕ) (m : Names) (right : MakeATree n m) where
  abbrev namers_in : (k j : ℕ) → List Slot
  namers_in k j = filter (λ s. s.ino == k) (entries_at m j)

  abbrev parent_by : ℕ → Bool → Bool
  parent_by k b = if b then bytes_eq (namers_of n m k) [] && parent_at m k == 2 else bytes_eq (namers_of n m k) (parent_at m k ∷ []) && leads_to_root n m k

  good_row : (k : ℕ) → k < n → is_directory_in m k ≡ true → (BeginsAs k (parent_at m k) (slots_at m k)) × ((name : List ℕ) → sum_at (of_name name) m k ≤ 1)
  good_row k less is =
      let parts = good_parts (is_directory_in m k) k (slots_at m k) is (right.slots k less) in
      ((parts.0, refl), λ name. omega (arith, count_names name (slots_at m k), twice_counts (in_use (slots_at m k)) parts.1 name))

  entry_count : (k j : ℕ) → k < n → j < n → is_directory_in m k ≡ true → sum_at (of_entry k) m j ≡ one_if (not (k == 2) && j == parent_at m k)
  entry_count k j less low is = elim (cases_Bool (k == 2)) [
    | inl root ↦
        let holds : parent_by k true ≡ true = sym (ap (parent_by k) root) ∙ right_parent n m right k less is in
        let both = and_parts (bytes_eq (namers_of n m k) []) (parent_at m k == 2) holds in
        let none = none_namer (namers_in k) n 0 j ((bytes_eq-Decides (namers_of n m k) []).0 both.0) (omega arith) (omega arith) in
        sym (count_entries k (slots_at m j)) ∙ none ∙ sym (none_root k j (parent_at m k) root)
    | inr other ↦
        let holds : parent_by k false ≡ true = sym (ap (parent_by k) other) ∙ right_parent n m right k less is in
        let both = and_parts (bytes_eq (namers_of n m k) (parent_at m k ∷ [])) (leads_to_root n m k) holds in
        let namers = (bytes_eq-Decides (namers_of n m k) (parent_at m k ∷ [])).0 both.0 in
        by_length other namers (length (namers_in k j)) refl (cases_eq j (parent_at m k))
  ] where
    by_length : (k == 2) ≡ false → namers_of n m k ≡ parent_at m k ∷ [] → (l : ℕ) → length (namers_in k j) ≡ l → (j ≡ parent_at m k) ⊎ (j ≢ parent_at m k)
        → sum_at (of_entry k) m j ≡ one_if (not (k == 2) && j == parent_at m k)
    by_length other namers l is_l (inl same) =
        let first = first_namer (namers_in k) n 0 (parent_at m k) [] namers in
        let some : 0 < length (namers_in k j) = subst (λ (h : ℕ). 0 < length (namers_in k h)) (sym same) first.0 in
        let only = only_namer (namers_in k) n 0 j (parent_at m k) namers (omega arith) (omega arith) some in
        let one = one_at k j (parent_at m k) other same in
        omega (arith, count_entries k (slots_at m j), some, only.1, one)
    by_length other namers zero is_l (inr apart) = sym (count_entries k (slots_at m j)) ∙ is_l ∙ sym (none_apart k j (parent_at m k) apart)
    by_length other namers (suc l) is_l (inr apart) = absurd (apart (only_namer (namers_in k) n 0 j (parent_at m k) namers (omega arith) (omega arith) (omega arith)).0)

  leads_up : (k : ℕ) → k < n → is_directory_in m k ≡ true → (steps : ℕ) × (ancestor_of m steps k ≡ 2)
  leads_up k less is = elim (cases_Bool (k == 2)) [
    | inl root ↦ (0, eqb-true k 2 root)
    | inr other ↦
        let holds : parent_by k false ≡ true = sym (ap (parent_by k) other) ∙ right_parent n m right k less is in
        let both = and_parts (bytes_eq (namers_of n m k) (parent_at m k ∷ [])) (leads_to_root n m k) holds in
        let some = in_range_any (λ steps. ancestor_of m steps k == 2) n 0 both.1 in
        (some.0, eqb-true (ancestor_of m some.0 k) 2 some.1)
  ]

  pub counted : IsCounted n m (parent_at m)
  counted = record {
    root = right.root;
    begins = λ k less is. (good_row k less is).0;
    once = λ k less is. (good_row k less is).1;
    used = λ k less is. right.used k less;
    top = root_above n m right;
    entries = entry_count;
    above = λ k less is. (parent_directory n m right k less is, parent_below n m right k less is);
    leads = leads_up;
  }

module _ (n : ℕ) (m : Names) (up : ℕ → ℕ) (rules : IsCounted n m up) where
  -- a directory that another one names has that above it, and isn't the root
  pub listed_below : (k j : ℕ) → k < n → j < n → is_directory_in m k ≡ true → 0 < sum_at (of_entry k) m j → ((k == 2) ≡ false) × (j ≡ up k)
  listed_below k j less low is some =
      let count = rules.entries k j less low is in
      elim (cases_Bool (k == 2)) [
        | inl root ↦ absurd (let none = none_root k j (up k) root in omega (arith, count, none, some))
        | inr other ↦ elim (cases_eq j (up k)) [
          | inl same ↦ (other, same)
          | inr apart ↦ absurd (let none = none_apart k j (up k) apart in omega (arith, count, none, some))
        ]
      ]

  parent_is_up : (k : ℕ) → k < n → is_directory_in m k ≡ true → parent_at m k ≡ up k
  parent_is_up k less is = (rules.begins k less is).1

  -- each directory on the way up is one of the volume
  stays_within : (steps k : ℕ) → k < n → is_directory_in m k ≡ true → ancestor_of m steps k < n
  stays_within zero k less is = less
  stays_within (suc steps) k less is =
      let next = rules.above k less is in
      subst (λ (h : ℕ). ancestor_of m steps h < n) (sym (parent_is_up k less is)) (stays_within steps (up k) next.1 next.0)

  pub few_steps : (k : ℕ) → k < n → is_directory_in m k ≡ true → (e : ℕ) × (e < n) × (ancestor_of m e k ≡ 2)
  few_steps k less is = let steps = rules.leads k less is in in_few_steps m k n steps.0 steps.1 (λ t. stays_within t k less is)

  good : (k : ℕ) → k < n → has_bad_slots m k ≡ false
  good k less = elim (cases_Bool (is_directory_in m k)) [
    | inl is ↦
        parts_good (is_directory_in m k) k (slots_at m k) (rules.begins k less is).0
        (counts_twice (in_use (slots_at m k)) (λ name. omega (arith, count_names name (slots_at m k), rules.once k less is name)))
    | inr none ↦ ap (λ (d : Bool). bad_by d k (slots_at m k)) none
  ]

  all_used : (k : ℕ) → k < n → names_unused m k ≡ false
  all_used k less = elim (cases_Bool (is_directory_in m k)) [
    | inl is ↦ rules.used k less is
    | inr none ↦ ap (λ (slots : List Slot). list_any (λ s. not (is_used_in m s.ino)) (in_use slots)) (slots_none (m k) none)
  ]

  right_parents : (k : ℕ) → k < n → has_bad_parent n m k ≡ false
  right_parents k less = elim (cases_Bool (is_directory_in m k)) [
    | inr none ↦ ap (λ (d : Bool). d && not (has_right_parent n m k)) none
    | inl is ↦ ap (λ (b : Bool). is_directory_in m k && not b) (holds is) ∙ never (is_directory_in m k)
  ] where
    never : (d : Bool) → (d && false) ≡ false
    never true = refl
    never false = refl

    holds : is_directory_in m k ≡ true → has_right_parent n m k ≡ true
    holds is =
        let by : Bool → Bool = λ b. if b then bytes_eq (namers_of n m k) [] && parent_at m k == 2 else bytes_eq (namers_of n m k) (parent_at m k ∷ []) && leads_to_root n m k in
        let namers : ℕ → List Slot = λ j. filter (λ s. s.ino == k) (entries_at m j) in
        elim (cases_Bool (k == 2)) [
          | inl root ↦
              let none : namers_of n m k ≡ [] =
              no_namers namers n 0 (λ j low high. count_entries k (slots_at m j) ∙ rules.entries k j less (omega arith) is ∙ none_root k j (up k) root) in
              let two : parent_at m k ≡ 2 = parent_is_up k less is ∙ rules.top k less is root in
              ap by root ∙ and_from (bytes_eq (namers_of n m k) []) (parent_at m k == 2) ((bytes_eq-Decides (namers_of n m k) []).1 none) (eq-eqb (parent_at m k) 2 two)
          | inr other ↦
              let next = rules.above k less is in
              let at : parent_at m k ≡ up k = parent_is_up k less is in
              let one : length (namers (up k)) ≡ 1 = count_entries k (slots_at m (up k)) ∙ rules.entries k (up k) less next.1 is ∙ one_at k (up k) (up k) other refl in
              let named : namers_of n m k ≡ up k ∷ [] =
              single_namer namers (up k) one n 0 (omega arith) (omega (arith, next.1)) (λ j apart low high. count_entries k (slots_at m j) ∙ rules.entries k j less (omega arith) is ∙ none_apart k j (up k) apart) in
              let same : namers_of n m k ≡ parent_at m k ∷ [] = named ∙ ap (λ (h : ℕ). h ∷ []) (sym at) in
              let few = few_steps k less is in
              ap by other ∙ and_from (bytes_eq (namers_of n m k) (parent_at m k ∷ [])) (leads_to_root n m k) ((bytes_eq-Decides (namers_of n m k) (parent_at m k ∷ [])).1 same)
              (any_in_range (λ s. ancestor_of m s k == 2) n 0 few.0 (omega arith) (omega (arith, few.1)) (eq-eqb (ancestor_of m few.0 k) 2 few.2))
        ]

  pub counted_right : MakeATree n m
  counted_right = record { root = rules.root; slots = good; used = all_used; parents = right_parents }
