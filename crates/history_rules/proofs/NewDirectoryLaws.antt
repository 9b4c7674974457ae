-- Names that make a tree still do once a new directory and its name are there.
use Rattle.std.proofs.Common.{◌≡◌, ◌≢◌, ◌≤◌, ◌<◌, ◌⊎◌, ℕ, zero, suc, ◌+◌, ◌==◌, Bool, true, false, not, ◌&&◌, ◌||◌, cond, List, [], ◌∷◌, ◌++◌, length, map, Option, Some, None, refl, sym, ap, subst, inl, inr, ◌∙◌, arith, bytes_eq}
use Rattle.std.proofs.lemmas.Bool.{cases_Bool, cases_eq, and_parts, and_from, true≢false, eqb-true, eqb-false, eq-eqb, ne_eqb, not_from_false, not-true}
use Rattle.std.proofs.lemmas.Slice.Eq.{bytes_eq-Decides}
use Rattle.std.proofs.lemmas.List.Sums.{sum_by-cons}
use Rattle.std.specs.Prelude.{is_some, if◌then◌else◌}
use Rattle.std.specs.List.{list_any, filter, flat_map, count_by, range_with_len}
use Rattle.volume_model.specs.declared.directory.Slot.{Slot}
use Rattle.volume_model.specs.Format.{new_directory}
use Rattle.volume_model.specs.Sound.{Names, MakeATree, dot, dot_dot, is_used_in, is_directory_in, slots_at, entries_at, parent_at, begins_right, has_twice, has_bad_slots, names_unused, namers_of, ancestor_of, leads_to_root, has_right_parent, has_bad_parent}
use Rattle.history_rules.proofs.NameLaws.{named}
use Rattle.history_rules.proofs.EnterLaws.{EntersIn, slot_sum, enters-sum}
use Rattle.history_rules.proofs.SlotRuleLaws.{one_if, any_none, none_any, any_fewer, const_map, twice_counts, counts_twice, named_so, of_name, of_unused, of_entry, in_use, entries_of, count_names, count_unused, count_entries}
use Rattle.history_rules.proofs.RightNameLaws.{entry_by, directory_of, slots_from, parent_in, entry_other, right_parent, no_zero, parent_directory, parent_below, parent_used, none_so}
use Rattle.history_rules.proofs.ChangedRightLaws.{BeginsAs, bad_by, good_parts, parts_good}
use Rattle.history_rules.proofs.EnterRightLaws.{enters_begins, no_name, at_most, unused_by, none_unused}
use Rattle.history_rules.proofs.LeaveRightLaws.{named_dot, named_dot_dot}
use Rattle.history_rules.proofs.DroppedRightLaws.{entry_own}
use Rattle.history_rules.proofs.StepsLaws.{any_in_range, in_range_any, in_few_steps}

module _ {X : Type 0} (F : ℕ → List X) where
  pub no_namers : (len a : ℕ) → ((j : ℕ) → a ≤ j → j < a + len → length (F j) ≡ 0) → flat_map (λ j. map (λ x. j) (F j)) (range_with_len a len) ≡ []
  no_namers zero a none = refl
  no_namers (suc len) a none =
      ap (λ (l : List ℕ). l ++ flat_map (λ j. map (λ x. j) (F j)) (range_with_len (a + 1) len)) (const_map a (F a) [] (none a (omega arith) (omega arith)))
      ∙ no_namers len (a + 1) (λ j low high. none j (omega arith) (omega arith))

  -- where one alone names it, and once
  module _ (p : ℕ) (one : length (F p) ≡ 1) where
    single : (xs : List X) → length xs ≡ 1 → (j : ℕ) → map (λ x. j) xs ≡ j ∷ []
    single [] is j = absurd (omega arith)
    single (x ∷ []) is j = refl
    single (x ∷ (y ∷ xs)) is j = absurd (omega arith)

    pub single_namer : (len a : ℕ) → a ≤ p → p < a + len → ((j : ℕ) → j ≢ p → a ≤ j → j < a + len → length (F j) ≡ 0) → flat_map (λ j. map (λ x. j) (F j)) (range_with_len a len) ≡ p ∷ []
    single_namer zero a low high none = absurd (omega arith)
    single_namer (suc len) a low high none = elim (cases_eq a p) [
      | inl same ↦
          ap (λ (l : List ℕ). map (λ x. a) (F a) ++ l) (no_namers len (a + 1) (λ j less more. none j (λ e. omega arith) (omega arith) (omega arith)))
          ∙ ap (λ (l : List ℕ). l ++ []) (single (F a) (ap (λ (j : ℕ). length (F j)) same ∙ one) a) ∙ ap (λ (j : ℕ). j ∷ []) same
      | inr apart ↦
          ap (λ (l : List ℕ). l ++ flat_map (λ j. map (λ x. j) (F j)) (range_with_len (a + 1) len)) (const_map a (F a) [] (none a apart (omega arith) (omega arith)))
          ∙ single_namer len (a + 1) (omega arith) (omega arith) (λ j other less more. none j other (omega arith) (omega arith))
    ]

by_use : (free d same : Bool) → cond (not free) (one_if true) 0 ≡ 0 → entry_by (not free) d same ≡ 0
by_use true d same is = refl
by_use false d same is = absurd (omega arith)

-- an inode that isn't in use is named nowhere
unused_nowhere : (used : ℕ → Bool) (i : ℕ) → used i ≡ false → (slots : List Slot) → list_any (λ s. not (used s.ino)) (in_use slots) ≡ false → slot_sum (of_entry i) slots ≡ 0
unused_nowhere used i free slots is =
    let zero_is = any_none (λ (s : Slot). not (used s.ino)) (in_use slots) is in
    at_most_unused slots (sym (count_unused used slots) ∙ zero_is)
  where
    entry_less : (s : Slot) → of_unused used s.ino s.name ≡ 0 → of_entry i s.ino s.name ≡ 0
    entry_less s none = elim (cases_Bool (s.ino == i)) [
      | inr other ↦ entry_other i s.ino s.name other
      | inl same ↦
          let is_free : not (used s.ino) ≡ true = not_from_false (used s.ino) (ap used (eqb-true s.ino i same) ∙ free) in
          let both : cond (not (s.ino == 0)) (one_if true) 0 ≡ 0 = sym (ap (λ (b : Bool). cond (not (s.ino == 0)) (one_if b) 0) is_free) ∙ none in
          by_use (s.ino == 0) (not (bytes_eq s.name dot || bytes_eq s.name dot_dot)) (s.ino == i) both
    ]

    at_most_unused : (slots : List Slot) → slot_sum (of_unused used) slots ≡ 0 → slot_sum (of_entry i) slots ≡ 0
    at_most_unused [] none = refl
    at_most_unused (s ∷ slots) none =
        let at = sum_by-cons (λ (t : Slot). of_unused used t.ino t.name) s slots in
        omega (arith, sum_by-cons (λ (t : Slot). of_entry i t.ino t.name) s slots, entry_less s (omega (arith, at, none)), at_most_unused slots (omega (arith, at, none)))

module _ (n : ℕ) (m : Names) (right : MakeATree n m) (dir i : ℕ) (name : List ℕ) (xs ys : List Slot) (there : m dir ≡ Some (Some xs)) (below : dir < n) (enters : EntersIn name i xs ys)
    (new : named xs name ≡ None) (real : i ≢ 0) (below_i : i < n) (free : m i ≡ None) (after : Names) (now : after dir ≡ Some (Some ys)) (made : after i ≡ Some (Some (new_directory i dir)))
    (others : (k : ℕ) → k ≢ dir → k ≢ i → after k ≡ m k) where
  sums : (v : ℕ → List ℕ → ℕ) → ((other : List ℕ) → v 0 other ≡ 0) → slot_sum v ys ≡ slot_sum v xs + v i name
  sums v unused = enters-sum name i v unused xs ys enters

  absent : slot_sum (of_name name) xs ≡ 0
  absent = none_so name xs new

  is_dir : is_directory_in m dir ≡ true
  is_dir = ap directory_of there

  free_i : is_used_in m i ≡ false
  free_i = ap (λ (o : Option (Option (List Slot))). is_some o) free

  no_dir_i : is_directory_in m i ≡ false
  no_dir_i = ap directory_of free

  apart : dir ≢ i
  apart same = true≢false (sym is_dir ∙ ap (is_directory_in m) same ∙ no_dir_i)

  not_root : (i == 2) ≡ false
  not_root = ne_eqb i 2 (λ e. true≢false (sym right.root ∙ ap (is_directory_in m) (sym e) ∙ no_dir_i))

  real_dir : dir ≢ 0
  real_dir e = no_zero n m right (omega arith) (ap (is_directory_in m) (sym e) ∙ is_dir)

  above_is : parent_at m dir ≡ parent_in xs
  above_is = ap (λ (o : Option (Option (List Slot))). parent_in (slots_from o)) there

  real_above : parent_in xs ≢ 0
  real_above e = parent_used n m right dir below is_dir (above_is ∙ e)

  good : (begins_right dir xs ≡ true) × (has_twice (in_use xs) ≡ false)
  good = good_parts (is_directory_in m dir) dir xs is_dir (ap (λ (o : Option (Option (List Slot))). bad_by (is_directory_in m dir) dir (slots_from o)) (sym there) ∙ right.slots dir below)

  not_dot : name ≢ dot
  not_dot e = let both : Some dir ≡ None = sym (named_dot dir (parent_in xs) real_dir real_above xs (good.0, refl)) ∙ ap (named xs) (sym e) ∙ new in cc

  not_dot_dot : name ≢ dot_dot
  not_dot_dot e = let both : Some (parent_in xs) ≡ None = sym (named_dot_dot dir (parent_in xs) real_dir real_above xs (good.0, refl)) ∙ ap (named xs) (sym e) ∙ new in cc

  begins : BeginsAs dir (parent_in xs) ys
  begins = enters_begins name i dir (parent_in xs) real_dir real_above xs ys enters (good.0, refl)

  once : has_twice (in_use ys) ≡ false
  once = counts_twice (in_use ys) (λ other. few other (cases_Bool (bytes_eq name other))) where
    few : (other : List ℕ) → (bytes_eq name other ≡ true) ⊎ (bytes_eq name other ≡ false) → count_by (named_so other) (in_use ys) ≤ 1
    few other (inl same) =
        let is : name ≡ other = (bytes_eq-Decides name other).0 same in
        let none : slot_sum (of_name other) xs ≡ 0 = ap (λ (l : List ℕ). slot_sum (of_name l) xs) (sym is) ∙ absent in
        omega (arith, sums (of_name other) (λ l. refl), count_names other ys, none, at_most (not (i == 0)) (bytes_eq name other))
    few other (inr differ) =
        let none : of_name other i name ≡ 0 = no_name (not (i == 0)) (bytes_eq name other) differ in
        omega (arith, sums (of_name other) (λ l. refl), count_names other ys, none, count_names other xs, twice_counts (in_use xs) good.1 other)

  -- the new directory
  abbrev row : List Slot
  row = new_directory i dir

  row_used : in_use row ≡ row
  row_used =
      let own : Slot = record { ino = i; len = 12; name = 46 ∷ [] } in
      let up : Slot = record { ino = dir; len = 500; name = 46 ∷ 46 ∷ [] } in
      let a : not (i == 0) ≡ true = not_from_false (i == 0) (ne_eqb i 0 real) in
      let b : not (dir == 0) ≡ true = not_from_false (dir == 0) (ne_eqb dir 0 real_dir) in
      λ t. cond (a t) (own ∷ cond (b t) (up ∷ []) []) (cond (b t) (up ∷ []) [])

  row_begins : begins_right i row ≡ true
  row_begins = λ t. bytes_eq dot dot && 12 == 12 && eq-eqb i i refl t && bytes_eq dot_dot dot_dot

  row_once : has_twice (in_use row) ≡ false
  row_once = ap has_twice row_used

  row_none : (k : ℕ) → length (filter (λ s. s.ino == k) (entries_of row)) ≡ 0
  row_none k = ap (λ (slots : List Slot). length (filter (λ s. s.ino == k) (filter (λ s. not (bytes_eq s.name dot || bytes_eq s.name dot_dot)) slots))) row_used

  now_i : is_directory_in after i ≡ true
  now_i = ap directory_of made

  now_parent : parent_at after i ≡ dir
  now_parent = ap (λ (o : Option (Option (List Slot))). parent_in (slots_from o)) made

  same_directory : (k : ℕ) → k ≢ i → is_directory_in after k ≡ is_directory_in m k
  same_directory k other = elim (cases_eq k dir) [
    | inl at ↦ ap (is_directory_in after) at ∙ ap directory_of now ∙ sym is_dir ∙ sym (ap (is_directory_in m) at)
    | inr not_dir ↦ ap directory_of (others k not_dir other)
  ]

  same_slots : (k : ℕ) → k ≢ dir → k ≢ i → slots_at after k ≡ slots_at m k
  same_slots k not_dir other = ap slots_from (others k not_dir other)

  now_good : (k : ℕ) → k < n → has_bad_slots after k ≡ false
  now_good k less = elim (cases_eq k i) [
    | inl at ↦
        ap (has_bad_slots after) at ∙ ap (λ (o : Option (Option (List Slot))). bad_by (is_directory_in after i) i (slots_from o)) made
        ∙ parts_good (is_directory_in after i) i row row_begins row_once
    | inr other ↦ elim (cases_eq k dir) [
      | inl at ↦
          ap (has_bad_slots after) at ∙ ap (λ (o : Option (Option (List Slot))). bad_by (is_directory_in after dir) dir (slots_from o)) now
          ∙ parts_good (is_directory_in after dir) dir ys begins.0 once
      | inr not_dir ↦ (λ t. bad_by (same_directory k other t) k (same_slots k not_dir other t)) ∙ right.slots k less
    ]
  ]

  used_i : is_used_in after i ≡ true
  used_i = ap (λ (o : Option (Option (List Slot))). is_some o) made

  all_used : (k : ℕ) → is_used_in m k ≡ true → is_used_in after k ≡ true
  all_used k is = elim (cases_eq k i) [
    | inl at ↦ ap (is_used_in after) at ∙ used_i
    | inr other ↦ elim (cases_eq k dir) [
      | inl at ↦ ap (is_used_in after) at ∙ ap (λ (o : Option (Option (List Slot))). is_some o) now
      | inr not_dir ↦ ap (λ (o : Option (Option (List Slot))). is_some o) (others k not_dir other) ∙ is
    ]
  ]

  used_less : (k : ℕ) → not (is_used_in after k) ≡ true → not (is_used_in m k) ≡ true
  used_less k not_now = elim (cases_Bool (is_used_in m k)) [
    | inl used ↦ absurd (true≢false (sym (all_used k used) ∙ not-true (is_used_in after k) not_now))
    | inr free ↦ not_from_false (is_used_in m k) free
  ]

  fewer : (slots : List Slot) → list_any (λ s. not (is_used_in m s.ino)) (in_use slots) ≡ false → list_any (λ s. not (is_used_in after s.ino)) (in_use slots) ≡ false
  fewer slots = any_fewer (λ (s : Slot). not (is_used_in m s.ino)) (λ (s : Slot). not (is_used_in after s.ino)) (λ s. used_less s.ino) (in_use slots)

  used_dir : is_used_in after dir ≡ true
  used_dir = ap (λ (o : Option (Option (List Slot))). is_some o) now

  row_names : list_any (λ s. not (is_used_in after s.ino)) (in_use row) ≡ false
  row_names = ap (list_any (λ s. not (is_used_in after s.ino))) row_used ∙ (λ t. not (used_i t) || (not (used_dir t) || false))

  used : (k : ℕ) → k < n → names_unused after k ≡ false
  used k less = elim (cases_eq k i) [
    | inl at ↦ ap (names_unused after) at ∙ ap (λ (o : Option (Option (List Slot))). list_any (λ s. not (is_used_in after s.ino)) (in_use (slots_from o))) made ∙ row_names
    | inr other ↦ elim (cases_eq k dir) [
      | inl at ↦
          let was : list_any (λ s. not (is_used_in m s.ino)) (in_use xs) ≡ false =
          ap (λ (o : Option (Option (List Slot))). list_any (λ s. not (is_used_in m s.ino)) (in_use (slots_from o))) (sym there) ∙ right.used dir below in
          let zero_is : count_by (λ s. not (is_used_in after s.ino)) (in_use xs) ≡ 0 = any_none (λ (s : Slot). not (is_used_in after s.ino)) (in_use xs) (fewer xs was) in
          let none : of_unused (is_used_in after) i name ≡ 0 = ap (unused_by (not (i == 0))) used_i ∙ none_unused (not (i == 0)) in
          let count : count_by (λ s. not (is_used_in after s.ino)) (in_use ys) ≡ 0 =
          omega (arith, sums (of_unused (is_used_in after)) (λ l. refl), count_unused (is_used_in after) ys, count_unused (is_used_in after) xs, none, zero_is) in
          ap (names_unused after) at ∙ ap (λ (o : Option (Option (List Slot))). list_any (λ s. not (is_used_in after s.ino)) (in_use (slots_from o))) now
          ∙ none_any (λ (s : Slot). not (is_used_in after s.ino)) (in_use ys) count
      | inr not_dir ↦
          ap (λ (slots : List Slot). list_any (λ s. not (is_used_in after s.ino)) (in_use slots)) (same_slots k not_dir other) ∙ fewer (slots_at m k) (right.used k less)
    ]
  ]

  abbrev namers_in : Names → (k j : ℕ) → List Slot
  namers_in names k j = filter (λ s. s.ino == k) (entries_at names j)

  abbrev count_of : ℕ → List Slot → ℕ
  count_of k slots = length (filter (λ s. s.ino == k) (entries_of slots))

  count_dir : (k : ℕ) → length (namers_in after k dir) ≡ length (namers_in m k dir) + of_entry k i name
  count_dir k =
      let here : length (namers_in after k dir) ≡ slot_sum (of_entry k) ys = ap (λ (o : Option (Option (List Slot))). count_of k (slots_from o)) now ∙ count_entries k ys in
      let was : length (namers_in m k dir) ≡ slot_sum (of_entry k) xs = ap (λ (o : Option (Option (List Slot))). count_of k (slots_from o)) there ∙ count_entries k xs in
      omega (arith, here, was, sums (of_entry k) (λ l. refl))

  count_i : (k : ℕ) → length (namers_in after k i) ≡ 0
  count_i k = ap (λ (o : Option (Option (List Slot))). count_of k (slots_from o)) made ∙ row_none k

  same_count : (k : ℕ) → k ≢ i → (j : ℕ) → length (namers_in after k j) ≡ length (namers_in m k j)
  same_count k other j = elim (cases_eq j i) [
    | inl at ↦
        ap (λ (h : ℕ). length (namers_in after k h)) at ∙ count_i k
        ∙ sym (ap (λ (h : ℕ). length (namers_in m k h)) at ∙ ap (λ (o : Option (Option (List Slot))). count_of k (slots_from o)) free)
    | inr not_i ↦ elim (cases_eq j dir) [
      | inl at ↦
          let none : of_entry k i name ≡ 0 = entry_other k i name (ne_eqb i k (λ e. other (sym e))) in
          let here : length (namers_in after k j) ≡ length (namers_in after k dir) = ap (λ (h : ℕ). length (namers_in after k h)) at in
          let was : length (namers_in m k j) ≡ length (namers_in m k dir) = ap (λ (h : ℕ). length (namers_in m k h)) at in
          omega (arith, here, was, count_dir k, none)
      | inr not_dir ↦ ap (count_of k) (same_slots j not_dir not_i)
    ]
  ]

  -- nothing named it before
  none_before : (j : ℕ) → j < n → length (namers_in m i j) ≡ 0
  none_before j less = count_entries i (slots_at m j) ∙ unused_nowhere (is_used_in m) i free_i (slots_at m j) (right.used j less)

  new_namer : namers_of n after i ≡ dir ∷ []
  new_namer =
      single_namer (namers_in after i) dir (omega (arith, count_dir i, none_before dir below, entry_own i name real not_dot not_dot_dot)) n 0 (omega arith) (omega arith) (λ j other low high. none_else j other (omega arith))
    where
      none_else : (j : ℕ) → j ≢ dir → j < n → length (namers_in after i j) ≡ 0
      none_else j not_dir less = elim (cases_eq j i) [
        | inl at ↦ ap (λ (h : ℕ). length (namers_in after i h)) at ∙ count_i i
        | inr not_i ↦ ap (count_of i) (same_slots j not_dir not_i) ∙ none_before j less
      ]

  same_parent : (k : ℕ) → k ≢ i → parent_at after k ≡ parent_at m k
  same_parent k other = elim (cases_eq k dir) [
    | inl at ↦ ap (parent_at after) at ∙ ap (λ (o : Option (Option (List Slot))). parent_in (slots_from o)) now ∙ begins.1 ∙ sym above_is ∙ sym (ap (parent_at m) at)
    | inr not_dir ↦ ap parent_in (same_slots k not_dir other)
  ]

  -- a directory that was there isn't the new one
  other_than : (k : ℕ) → is_directory_in m k ≡ true → k ≢ i
  other_than k is e = true≢false (sym is ∙ ap (is_directory_in m) e ∙ no_dir_i)

  same_ancestor : (steps k : ℕ) → k < n → is_directory_in m k ≡ true → (ancestor_of after steps k ≡ ancestor_of m steps k) × (ancestor_of m steps k < n)
  same_ancestor zero k less is = (refl, less)
  same_ancestor (suc steps) k less is =
      let more = same_ancestor steps (parent_at m k) (parent_below n m right k less is) (parent_directory n m right k less is) in
      (ap (ancestor_of after steps) (same_parent k (other_than k is)) ∙ more.0, more.1)

  same_right : (k : ℕ) → k < n → is_directory_in m k ≡ true → has_right_parent n after k ≡ has_right_parent n m k
  same_right k less is =
      let other = other_than k is in
      let same_namers : namers_of n after k ≡ namers_of n m k = λ t. flat_map (λ j. const_map j (namers_in after k j) (namers_in m k j) (same_count k other j) t) (range_with_len 0 n) in
      let same_leads : leads_to_root n after k ≡ leads_to_root n m k = λ t. list_any (λ steps. (same_ancestor steps k less is).0 t == 2) (range_with_len 0 n) in
      λ t. if k == 2 then bytes_eq (same_namers t) [] && same_parent k other t == 2 else bytes_eq (same_namers t) (same_parent k other t ∷ []) && same_leads t

  -- steps up from the directory that has the new one, and then from that
  dir_leads : (steps : ℕ) × (ancestor_of m steps dir ≡ 2)
  dir_leads = elim (cases_Bool (dir == 2)) [
    | inl root ↦ (0, eqb-true dir 2 root)
    | inr other ↦
        let by : Bool → Bool = λ b. if b then bytes_eq (namers_of n m dir) [] && parent_at m dir == 2 else bytes_eq (namers_of n m dir) (parent_at m dir ∷ []) && leads_to_root n m dir in
        let holds : by false ≡ true = sym (ap by other) ∙ right_parent n m right dir below is_dir in
        let both = and_parts (bytes_eq (namers_of n m dir) (parent_at m dir ∷ [])) (leads_to_root n m dir) holds in
        let some = in_range_any (λ steps. ancestor_of m steps dir == 2) n 0 both.1 in
        (some.0, eqb-true (ancestor_of m some.0 dir) 2 some.1)
  ]

  on_the_way : (t : ℕ) → ancestor_of after t i < n
  on_the_way zero = below_i
  on_the_way (suc t) =
      let at = same_ancestor t dir below is_dir in
      subst (λ (k : ℕ). k < n) (sym (ap (ancestor_of after t) now_parent ∙ at.0)) at.1

  new_leads : leads_to_root n after i ≡ true
  new_leads =
      let steps = dir_leads in
      let up : ancestor_of after (suc steps.0) i ≡ 2 = ap (ancestor_of after steps.0) now_parent ∙ (same_ancestor steps.0 dir below is_dir).0 ∙ steps.1 in
      let few = in_few_steps after i n (suc steps.0) up on_the_way in
      any_in_range (λ s. ancestor_of after s i == 2) n 0 few.0 (omega arith) (omega (arith, few.1)) (eq-eqb (ancestor_of after few.0 i) 2 few.2)

  new_right : has_right_parent n after i ≡ true
  new_right =
      let by : Bool → Bool = λ b. if b then bytes_eq (namers_of n after i) [] && parent_at after i == 2 else bytes_eq (namers_of n after i) (parent_at after i ∷ []) && leads_to_root n after i in
      let same : namers_of n after i ≡ parent_at after i ∷ [] = new_namer ∙ ap (λ (k : ℕ). k ∷ []) (sym now_parent) in
      ap by not_root ∙ and_from (bytes_eq (namers_of n after i) (parent_at after i ∷ [])) (leads_to_root n after i) ((bytes_eq-Decides (namers_of n after i) (parent_at after i ∷ [])).1 same) new_leads

  now_parents : (k : ℕ) → k < n → has_bad_parent n after k ≡ false
  now_parents k less = elim (cases_eq k i) [
    | inl at ↦ ap (has_bad_parent n after) at ∙ (λ t. now_i t && not (new_right t))
    | inr other ↦ elim (cases_Bool (is_directory_in m k)) [
      | inl is ↦ (λ t. same_directory k other t && not (same_right k less is t)) ∙ right.parents k less
      | inr is_none ↦ ap (λ (d : Bool). d && not (has_right_parent n after k)) (same_directory k other ∙ is_none)
    ]
  ]

  pub made_right : MakeATree n after
  made_right = record {
    root = same_directory 2 (λ e. eqb-false i 2 not_root (sym e)) ∙ right.root;
    slots = now_good;
    used = used;
    parents = now_parents;
  }
