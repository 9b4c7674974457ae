-- Names that make a tree still do once an empty directory and its name are gone.
use Rattle.std.proofs.Common.{◌≡◌, ◌≢◌, ◌≤◌, ◌<◌, ℕ, zero, suc, ◌+◌, ◌==◌, Bool, true, false, not, ◌&&◌, ◌||◌, List, [], ◌∷◌, ◌++◌, length, map, Option, Some, None, refl, sym, ap, inl, inr, ◌∙◌, arith, bytes_eq}
use Rattle.std.proofs.lemmas.Bool.{cases_Bool, cases_eq, and_parts, or_from, true≢false, eqb-true, eqb-false, eq-eqb, ne_eqb, not_from_false, false_from_ne_true}
use Rattle.std.proofs.lemmas.Slice.Eq.{bytes_eq-Decides}
use Rattle.std.proofs.lemmas.List.Sums.{sum_by-cons}
use Rattle.std.specs.Prelude.{is_some, if◌then◌else◌}
use Rattle.std.specs.List.{list_any, filter, flat_map, count_by, range_with_len}
use Rattle.volume_model.specs.declared.directory.Slot.{Slot}
use Rattle.volume_model.specs.Sound.{Names, MakeATree, dot, dot_dot, is_used_in, is_directory_in, slots_at, entries_at, parent_at, begins_right, has_twice, has_bad_slots, names_unused, namers_of, ancestor_of, leads_to_root, has_right_parent, has_bad_parent}
use Rattle.history_rules.proofs.EnterLaws.{slot_sum}
use Rattle.history_rules.proofs.SlotRuleLaws.{of_inode, one_if, any_none, none_any, const_map, twice_counts, counts_twice, of_name, of_unused, of_entry, in_use, entries_of, count_names, count_unused, count_entries}
use Rattle.history_rules.proofs.RightNameLaws.{entry_by, name_by, directory_of, slots_from, parent_in, slots_none, entry_other, right_parent, parent_names, root_above, no_zero, parent_directory, parent_below, parent_used}
use Rattle.history_rules.proofs.ChangedRightLaws.{BeginsAs, begin_parts, bad_by, good_parts, parts_good}
use Rattle.history_rules.proofs.LeaveLaws.{LeavesFrom, leaves-sum, leaves_begins}
use Rattle.history_rules.proofs.LeaveRightLaws.{without}

module _ {X : Type 0} (F : ℕ → List X) where
  abbrev namers : (len a : ℕ) → List ℕ
  namers len a = flat_map (λ j. map (λ x. j) (F j)) (range_with_len a len)

  -- where nothing names it
  pub none_namer : (len a j : ℕ) → namers len a ≡ [] → a ≤ j → j < a + len → length (F j) ≡ 0
  none_namer zero a j is low high = absurd (omega arith)
  none_namer (suc len) a j is low high = by_list (F a) refl (none_namer len (a + 1) j) is where
    by_list : (xs : List X) → F a ≡ xs → (flat_map (λ k. map (λ x. k) (F k)) (range_with_len (a + 1) len) ≡ [] → a + 1 ≤ j → j < a + 1 + len → length (F j) ≡ 0)
        → map (λ x. a) xs ++ flat_map (λ k. map (λ x. k) (F k)) (range_with_len (a + 1) len) ≡ [] → length (F j) ≡ 0
    by_list [] none later more = elim (cases_eq a j) [
      | inl same ↦ ap (λ (k : ℕ). length (F k)) (sym same) ∙ ap length none
      | inr apart ↦ later more (omega arith) (omega arith)
    ]
    by_list (x ∷ xs) some later more = absurd (let e : a ∷ (map (λ x. a) xs ++ flat_map (λ k. map (λ x. k) (F k)) (range_with_len (a + 1) len)) ≡ [] = more in cc)

  -- where one names it, no other does, and that one but once
  pub only_namer : (len a j p : ℕ) → namers len a ≡ p ∷ [] → a ≤ j → j < a + len → 0 < length (F j) → (j ≡ p) × (length (F j) ≤ 1)
  only_namer zero a j p is low high some = absurd (omega arith)
  only_namer (suc len) a j p is low high some = by_list (F a) refl (only_namer len (a + 1) j p) is where
    by_list : (xs : List X) → F a ≡ xs
        → (flat_map (λ k. map (λ x. k) (F k)) (range_with_len (a + 1) len) ≡ p ∷ [] → a + 1 ≤ j → j < a + 1 + len → 0 < length (F j) → (j ≡ p) × (length (F j) ≤ 1))
        → map (λ x. a) xs ++ flat_map (λ k. map (λ x. k) (F k)) (range_with_len (a + 1) len) ≡ p ∷ [] → (j ≡ p) × (length (F j) ≤ 1)
    by_list [] none later more = elim (cases_eq a j) [
      | inl same ↦ absurd (let zero_is : length (F j) ≡ 0 = ap (λ (k : ℕ). length (F k)) (sym same) ∙ ap length none in omega arith)
      | inr apart ↦ later more (omega arith) (omega arith) some
    ]
    by_list (x ∷ []) one later more =
        let first : a ≡ p = cc in
        let rest : flat_map (λ k. map (λ x. k) (F k)) (range_with_len (a + 1) len) ≡ [] = cc in
        elim (cases_eq a j) [
          | inl same ↦ (sym same ∙ first, let single : length (F j) ≡ 1 = ap (λ (k : ℕ). length (F k)) (sym same) ∙ ap length one in omega arith)
          | inr apart ↦ absurd (let none = none_namer len (a + 1) j rest (omega arith) (omega arith) in omega arith)
        ]
    by_list (x ∷ (y ∷ xs)) many later more =
        absurd (let e : a ∷ (map (λ x. a) xs ++ flat_map (λ k. map (λ x. k) (F k)) (range_with_len (a + 1) len)) ≡ [] = cc in cc)

none_long : {X : Type 0} (xs : List X) → length xs ≡ 0 → xs ≡ []
none_long [] is = refl
none_long (x ∷ xs) is = absurd (omega arith)

not_bytes : (name other : List ℕ) → name ≢ other → bytes_eq name other ≡ false
not_bytes name other differ = false_from_ne_true (bytes_eq name other) (λ e. differ ((bytes_eq-Decides name other).0 e))

pub entry_own : (i : ℕ) (name : List ℕ) → i ≢ 0 → name ≢ dot → name ≢ dot_dot → of_entry i i name ≡ 1
entry_own i name real not_dot not_dot_dot =
    let a : not (i == 0) ≡ true = not_from_false (i == 0) (ne_eqb i 0 real) in
    let b : not (bytes_eq name dot || bytes_eq name dot_dot) ≡ true =
    not_from_false (bytes_eq name dot || bytes_eq name dot_dot) (or_from (bytes_eq name dot) (bytes_eq name dot_dot) (not_bytes name dot not_dot) (not_bytes name dot_dot not_dot_dot)) in
    λ t. entry_by (a t) (b t) (eq-eqb i i refl t)

-- Slots that don't have these two names are entries.
entries_alike : (i : ℕ) → i ≢ 0 → (slots : List Slot) → slot_sum (of_name dot) slots ≡ 0 → slot_sum (of_name dot_dot) slots ≡ 0 → slot_sum (of_inode i) slots ≡ slot_sum (of_entry i) slots
entries_alike i real [] no_dot no_dot_dot = refl
entries_alike i real (s ∷ slots) no_dot no_dot_dot =
    let first = sum_by-cons (λ (t : Slot). of_name dot t.ino t.name) s slots in
    let second = sum_by-cons (λ (t : Slot). of_name dot_dot t.ino t.name) s slots in
    let more = entries_alike i real slots (omega (arith, first, no_dot)) (omega (arith, second, no_dot_dot)) in
    let here : of_inode i s.ino s.name ≡ of_entry i s.ino s.name = by_parts (s.ino == 0) (s.ino == i) (bytes_eq s.name dot) (bytes_eq s.name dot_dot) (one_only s.ino) (omega (arith, first, no_dot)) (omega (arith, second, no_dot_dot)) in
    omega (arith, here, more, sum_by-cons (λ (t : Slot). of_inode i t.ino t.name) s slots, sum_by-cons (λ (t : Slot). of_entry i t.ino t.name) s slots)
  where
    one_only : (k : ℕ) → (k == 0) ≡ true → (k == i) ≡ false
    one_only k free = ne_eqb k i (λ e. real (sym e ∙ eqb-true k 0 free))

    by_parts : (free same d dd : Bool) → (free ≡ true → same ≡ false) → name_by (not free) d ≡ 0 → name_by (not free) dd ≡ 0 → one_if same ≡ entry_by (not free) (not (d || dd)) same
    by_parts true same d dd other a b = ap one_if (other refl)
    by_parts false same true dd other a b = absurd (omega arith)
    by_parts false same false true other a b = absurd (omega arith)
    by_parts false same false false other a b = refl

-- a directory names an inode just by entries, if it is neither itself nor above
module _ (i k parent : ℕ) (real : i ≢ 0) (used : k ≢ 0) (above : parent ≢ 0) (other : k ≢ i) (not_above : parent ≢ i) where
  pub row_alike : (slots : List Slot) → BeginsAs k parent slots → has_twice (in_use slots) ≡ false → slot_sum (of_inode i) slots ≡ slot_sum (of_entry i) slots
  row_alike [] is once = refl
  row_alike (s ∷ []) is once = absurd (true≢false (sym is.0))
  row_alike (s ∷ (t ∷ more)) is once =
      let parts = begin_parts k s t more is.0 in
      let s_used : not (s.ino == 0) ≡ true = not_from_false (s.ino == 0) (ne_eqb s.ino 0 (λ e. used (sym parts.2 ∙ e))) in
      let t_used : not (t.ino == 0) ≡ true = not_from_false (t.ino == 0) (ne_eqb t.ino 0 (λ e. above (sym is.1 ∙ e))) in
      let s_dot : of_name dot s.ino s.name ≡ 1 = λ x. name_by (s_used x) (parts.0 x) in
      let t_dot : of_name dot_dot t.ino t.name ≡ 1 = λ x. name_by (t_used x) (parts.3 x) in
      let s_else : (s.ino == i) ≡ false = ne_eqb s.ino i (λ e. other (sym parts.2 ∙ e)) in
      let t_else : (t.ino == i) ≡ false = ne_eqb t.ino i (λ e. not_above (sym is.1 ∙ e)) in
      let s_none : of_inode i s.ino s.name ≡ 0 = ap one_if s_else in
      let t_none : of_inode i t.ino t.name ≡ 0 = ap one_if t_else in
      let sums = λ (v : ℕ → List ℕ → ℕ). two_sum v s t more in
      let dots = twice_counts (in_use (s ∷ (t ∷ more))) once dot in
      let dot_dots = twice_counts (in_use (s ∷ (t ∷ more))) once dot_dot in
      let no_dot : slot_sum (of_name dot) more ≡ 0 = omega (arith, dots, count_names dot (s ∷ (t ∷ more)), sums (of_name dot), s_dot) in
      let no_dot_dot : slot_sum (of_name dot_dot) more ≡ 0 = omega (arith, dot_dots, count_names dot_dot (s ∷ (t ∷ more)), sums (of_name dot_dot), t_dot) in
      omega (
        arith,
        sums (of_inode i),
        sums (of_entry i),
        s_none,
        t_none,
        entry_other i s.ino s.name s_else,
        entry_other i t.ino t.name t_else,
        entries_alike i real more no_dot no_dot_dot,
      )
    where
      two_sum : (v : ℕ → List ℕ → ℕ) (s t : Slot) (more : List Slot) → slot_sum v (s ∷ (t ∷ more)) ≡ v s.ino s.name + (v t.ino t.name + slot_sum v more)
      two_sum v s t more = omega (arith, sum_by-cons (λ (x : Slot). v x.ino x.name) s (t ∷ more), sum_by-cons (λ (x : Slot). v x.ino x.name) t more)

module _ (n : ℕ) (m : Names) (right : MakeATree n m) (dir i : ℕ) (name : List ℕ) (xs ys : List Slot) (there : m dir ≡ Some (Some xs)) (below : dir < n)
    (leaves : LeavesFrom name i xs ys) (not_dot : name ≢ dot) (not_dot_dot : name ≢ dot_dot) (is_dir_i : is_directory_in m i ≡ true) (below_i : i < n) (empty : length (entries_at m i) ≡ 0) where
  sums : (v : ℕ → List ℕ → ℕ) → ((other : List ℕ) → v 0 other ≡ 0) → slot_sum v ys + v i name ≡ slot_sum v xs
  sums v unused = leaves-sum name i v unused xs ys leaves

  is_dir : is_directory_in m dir ≡ true
  is_dir = ap directory_of there

  real : i ≢ 0
  real e = no_zero n m right (omega arith) (ap (is_directory_in m) (sym e) ∙ is_dir_i)

  abbrev namers_in : (k j : ℕ) → List Slot
  namers_in k j = filter (λ s. s.ino == k) (entries_at m j)

  nothing_in : entries_at m i ≡ []
  nothing_in = none_long (entries_at m i) empty

  -- the directory is named here
  named_here : length (namers_in i dir) ≡ slot_sum (of_entry i) ys + 1
  named_here =
      let at : length (namers_in i dir) ≡ slot_sum (of_entry i) xs = count_entries i (slots_at m dir) ∙ ap (λ (o : Option (Option (List Slot))). slot_sum (of_entry i) (slots_from o)) there in
      omega (arith, at, sums (of_entry i) (λ l. refl), entry_own i name real not_dot not_dot_dot)

  pub apart : i ≢ dir
  apart same =
      let none : length (namers_in i dir) ≡ 0 = ap (λ (k : ℕ). length (namers_in i k)) (sym same) ∙ ap (λ (slots : List Slot). length (filter (λ s. s.ino == i) slots)) nothing_in in
      omega (arith, named_here, none)

  abbrev parent_by : Bool → Bool
  parent_by b = if b then bytes_eq (namers_of n m i) [] && parent_at m i == 2 else bytes_eq (namers_of n m i) (parent_at m i ∷ []) && leads_to_root n m i

  not_root : (i == 2) ≡ false
  not_root = elim (cases_Bool (i == 2)) [
    | inr other ↦ other
    | inl root ↦ absurd (
        let holds : parent_by true ≡ true = sym (ap parent_by root) ∙ right_parent n m right i below_i is_dir_i in
        let both = and_parts (bytes_eq (namers_of n m i) []) (parent_at m i == 2) holds in
        let none = none_namer (namers_in i) n 0 dir ((bytes_eq-Decides (namers_of n m i) []).0 both.0) (omega arith) (omega arith) in
        omega (arith, named_here, none)
        )
  ]

  -- nothing else names it
  one_namer : (j : ℕ) → j < n → 0 < length (namers_in i j) → (j ≡ parent_at m i) × (length (namers_in i j) ≤ 1)
  one_namer j less some =
      let holds : parent_by false ≡ true = sym (ap parent_by not_root) ∙ right_parent n m right i below_i is_dir_i in
      let both = and_parts (bytes_eq (namers_of n m i) (parent_at m i ∷ [])) (leads_to_root n m i) holds in
      only_namer (namers_in i) n 0 j (parent_at m i) ((bytes_eq-Decides (namers_of n m i) (parent_at m i ∷ [])).0 both.0) (omega arith) (omega arith) some

  none_left : slot_sum (of_entry i) ys ≡ 0
  none_left = let one = one_namer dir below (omega (arith, named_here)) in omega (arith, named_here, one.1)

  none_elsewhere : (k : ℕ) → k < n → k ≢ dir → length (namers_in i k) ≡ 0
  none_elsewhere k less other = by_length (length (namers_in i k)) refl where
    by_length : (l : ℕ) → length (namers_in i k) ≡ l → l ≡ 0
    by_length zero is = refl
    by_length (suc l) is = absurd (other ((one_namer k less (omega arith)).0 ∙ sym (one_namer dir below (omega (arith, named_here))).0))

  -- it is above no directory
  no_child : (k : ℕ) → k < n → is_directory_in m k ≡ true → parent_at m k ≢ i
  no_child k less is e = elim (cases_Bool (k == 2)) [
    | inl root ↦ eqb-false i 2 not_root (sym e ∙ root_above n m right k less is root)
    | inr other ↦
        let names = parent_names n m right k less is other in
        let none : length (filter (λ s. s.ino == k) (entries_at m (parent_at m k))) ≡ 0 =
        ap (λ (j : ℕ). length (filter (λ s. s.ino == k) (entries_at m j))) e ∙ ap (λ (slots : List Slot). length (filter (λ s. s.ino == k) slots)) nothing_in in
        omega (arith, names.0, none)
  ]

  good : (begins_right dir xs ≡ true) × (has_twice (in_use xs) ≡ false)
  good = good_parts (is_directory_in m dir) dir xs is_dir (ap (λ (o : Option (Option (List Slot))). bad_by (is_directory_in m dir) dir (slots_from o)) (sym there) ∙ right.slots dir below)

  above_is : parent_at m dir ≡ parent_in xs
  above_is = ap (λ (o : Option (Option (List Slot))). parent_in (slots_from o)) there

  begins : BeginsAs dir (parent_in xs) ys
  begins = leaves_begins name i dir (parent_in xs) not_dot not_dot_dot xs ys leaves (good.0, refl)

  once : has_twice (in_use ys) ≡ false
  once = counts_twice (in_use ys) (λ other. omega (arith, sums (of_name other) (λ l. refl), count_names other ys, count_names other xs, twice_counts (in_use xs) good.1 other))

  module _ (after : Names) (now : after dir ≡ Some (Some ys)) (gone : after i ≡ None) (others : (k : ℕ) → k ≢ dir → k ≢ i → after k ≡ m k) where
    same_directory : (k : ℕ) → k ≢ i → is_directory_in after k ≡ is_directory_in m k
    same_directory k other = elim (cases_eq k dir) [
      | inl at ↦ ap (is_directory_in after) at ∙ ap directory_of now ∙ sym is_dir ∙ sym (ap (is_directory_in m) at)
      | inr not_dir ↦ ap directory_of (others k not_dir other)
    ]

    same_slots : (k : ℕ) → k ≢ dir → k ≢ i → slots_at after k ≡ slots_at m k
    same_slots k not_dir other = ap slots_from (others k not_dir other)

    now_good : (k : ℕ) → k < n → has_bad_slots after k ≡ false
    now_good k less = elim (cases_eq k i) [
      | inl at ↦ ap (has_bad_slots after) at ∙ ap (λ (o : Option (Option (List Slot))). bad_by (directory_of o) i (slots_from o)) gone
      | inr other ↦ elim (cases_eq k dir) [
        | inl at ↦
            ap (has_bad_slots after) at ∙ ap (λ (o : Option (Option (List Slot))). bad_by (is_directory_in after dir) dir (slots_from o)) now
            ∙ parts_good (is_directory_in after dir) dir ys begins.0 once
        | inr not_dir ↦ (λ t. bad_by (same_directory k other t) k (same_slots k not_dir other t)) ∙ right.slots k less
      ]
    ]

    same_parent : (k : ℕ) → k ≢ i → parent_at after k ≡ parent_at m k
    same_parent k other = elim (cases_eq k dir) [
      | inl at ↦
          ap (parent_at after) at ∙ ap (λ (o : Option (Option (List Slot))). parent_in (slots_from o)) now ∙ begins.1 ∙ sym above_is ∙ sym (ap (parent_at m) at)
      | inr not_dir ↦ ap parent_in (same_slots k not_dir other)
    ]

    same_ancestor : (steps k : ℕ) → k < n → k ≢ i → is_directory_in m k ≡ true → ancestor_of after steps k ≡ ancestor_of m steps k
    same_ancestor zero k less other is = refl
    same_ancestor (suc steps) k less other is =
        ap (ancestor_of after steps) (same_parent k other)
        ∙ same_ancestor steps (parent_at m k) (parent_below n m right k less is) (no_child k less is) (parent_directory n m right k less is)

    same_namers_in : (k : ℕ) → k ≢ i → (j : ℕ) → map (λ s. j) (filter (λ s. s.ino == k) (entries_at after j)) ≡ map (λ s. j) (namers_in k j)
    same_namers_in k other j = elim (cases_eq j dir) [
      | inl at ↦
          let none : of_entry k i name ≡ 0 = entry_other k i name (ne_eqb i k (λ e. other (sym e))) in
          let count : List Slot → ℕ = λ slots. length (filter (λ s. s.ino == k) (entries_of slots)) in
          let here : count (slots_at after j) ≡ slot_sum (of_entry k) ys = ap (λ (h : ℕ). count (slots_at after h)) at ∙ ap (λ (o : Option (Option (List Slot))). count (slots_from o)) now ∙ count_entries k ys in
          let was : count (slots_at m j) ≡ slot_sum (of_entry k) xs = ap (λ (h : ℕ). count (slots_at m h)) at ∙ ap (λ (o : Option (Option (List Slot))). count (slots_from o)) there ∙ count_entries k xs in
          const_map j (filter (λ s. s.ino == k) (entries_at after j)) (namers_in k j) (omega (arith, here, was, sums (of_entry k) (λ l. refl), none))
      | inr not_dir ↦ elim (cases_eq j i) [
        | inl at ↦
            let count : List Slot → ℕ = λ entries. length (filter (λ s. s.ino == k) entries) in
            let here : count (entries_at after j) ≡ 0 = ap (λ (h : ℕ). count (entries_at after h)) at ∙ ap (λ (o : Option (Option (List Slot))). count (entries_of (slots_from o))) gone in
            let was : count (entries_at m j) ≡ 0 = ap (λ (h : ℕ). count (entries_at m h)) at ∙ ap count nothing_in in
            const_map j (filter (λ s. s.ino == k) (entries_at after j)) (namers_in k j) (here ∙ sym was)
        | inr not_i ↦ ap (λ (slots : List Slot). map (λ s. j) (filter (λ s. s.ino == k) (entries_of slots))) (same_slots j not_dir not_i)
      ]
    ]

    same_right : (k : ℕ) → k < n → k ≢ i → is_directory_in m k ≡ true → has_right_parent n after k ≡ has_right_parent n m k
    same_right k less other is =
        let same_namers : namers_of n after k ≡ namers_of n m k = λ t. flat_map (λ j. same_namers_in k other j t) (range_with_len 0 n) in
        let same_leads : leads_to_root n after k ≡ leads_to_root n m k = λ t. list_any (λ steps. same_ancestor steps k less other is t == 2) (range_with_len 0 n) in
        λ t. if k == 2 then bytes_eq (same_namers t) [] && same_parent k other t == 2 else bytes_eq (same_namers t) (same_parent k other t ∷ []) && same_leads t

    now_parents : (k : ℕ) → k < n → has_bad_parent n after k ≡ false
    now_parents k less = elim (cases_eq k i) [
      | inl at ↦ ap (λ (d : Bool). d && not (has_right_parent n after k)) (ap (is_directory_in after) at ∙ ap directory_of gone)
      | inr other ↦ elim (cases_Bool (is_directory_in m k)) [
        | inl is ↦ (λ t. same_directory k other t && not (same_right k less other is t)) ∙ right.parents k less
        | inr is_none ↦ ap (λ (d : Bool). d && not (has_right_parent n after k)) (same_directory k other ∙ is_none)
      ]
    ]

    still_used : (k : ℕ) → k ≢ i → is_used_in m k ≡ true → is_used_in after k ≡ true
    still_used k other is = elim (cases_eq k dir) [
      | inl at ↦ ap (is_used_in after) at ∙ ap (λ (o : Option (Option (List Slot))). is_some o) now
      | inr not_dir ↦ ap (λ (o : Option (Option (List Slot))). is_some o) (others k not_dir other) ∙ is
    ]

    -- what a directory other than it names
    none_in_row : (k : ℕ) → k < n → k ≢ i → is_directory_in m k ≡ true → (slots : List Slot) → BeginsAs k (parent_at m k) slots → has_twice (in_use slots) ≡ false → slot_sum (of_entry i) slots ≡ 0
        → slot_sum (of_inode i) slots ≡ 0
    none_in_row k less other is slots begin not_twice none =
        row_alike i k (parent_at m k) real (λ e. no_zero n m right (omega arith) (ap (is_directory_in m) (sym e) ∙ is)) (parent_used n m right k less is) other (no_child k less is) slots begin not_twice ∙ none

    used : (k : ℕ) → k < n → names_unused after k ≡ false
    used k less = elim (cases_eq k i) [
      | inl at ↦ ap (names_unused after) at ∙ ap (λ (o : Option (Option (List Slot))). list_any (λ s. not (is_used_in after s.ino)) (in_use (slots_from o))) gone
      | inr other ↦ elim (cases_eq k dir) [
        | inl at ↦
            let was : list_any (λ s. not (is_used_in m s.ino)) (in_use xs) ≡ false =
            ap (λ (o : Option (Option (List Slot))). list_any (λ s. not (is_used_in m s.ino)) (in_use (slots_from o))) (sym there) ∙ right.used dir below in
            let count : count_by (λ s. not (is_used_in m s.ino)) (in_use ys) ≡ 0 =
            omega (arith, sums (of_unused (is_used_in m)) (λ l. refl), count_unused (is_used_in m) ys, count_unused (is_used_in m) xs, any_none (λ (s : Slot). not (is_used_in m s.ino)) (in_use xs) was) in
            ap (names_unused after) at ∙ ap (λ (o : Option (Option (List Slot))). list_any (λ s. not (is_used_in after s.ino)) (in_use (slots_from o))) now
            ∙ without (is_used_in m) (is_used_in after) i still_used ys (none_any (λ (s : Slot). not (is_used_in m s.ino)) (in_use ys) count)
            (none_in_row dir below (λ e. apart (sym e)) is_dir ys (begins.0, begins.1 ∙ sym above_is) once none_left)
        | inr not_dir ↦
            ap (λ (slots : List Slot). list_any (λ s. not (is_used_in after s.ino)) (in_use slots)) (same_slots k not_dir other)
            ∙ without (is_used_in m) (is_used_in after) i still_used (slots_at m k) (right.used k less) (elim (cases_Bool (is_directory_in m k)) [
              | inl is ↦
                  let parts = good_parts (is_directory_in m k) k (slots_at m k) is (right.slots k less) in
                  none_in_row k less other is (slots_at m k) (parts.0, refl) parts.1 (sym (count_entries i (slots_at m k)) ∙ none_elsewhere k less not_dir)
              | inr is_none ↦ ap (slot_sum (of_inode i)) (slots_none (m k) is_none)
            ])
      ]
    ]

    pub drop_right : MakeATree n after
    drop_right = record {
      root = same_directory 2 (λ e. eqb-false i 2 not_root (sym e)) ∙ right.root;
      slots = now_good;
      used = used;
      parents = now_parents;
    }
