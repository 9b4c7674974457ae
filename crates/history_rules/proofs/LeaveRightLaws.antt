-- Names that make a tree still do once a name of an inode that is no directory is taken out.
use Rattle.std.proofs.Common.{◌≡◌, ◌≢◌, ◌<◌, ◌⊎◌, ℕ, ◌+◌, ◌==◌, Bool, true, false, not, cond, List, [], ◌∷◌, length, Option, Some, refl, sym, ap, inl, inr, ◌∙◌, arith, bytes_eq}
use Rattle.std.proofs.lemmas.Bool.{cases_Bool, cases_eq, and_from, and_right, or_parts, or_from, true≢false, eq-eqb, ne_eqb, not_from_true, not_from_false, not-true, not-false}
use Rattle.std.proofs.lemmas.Slice.Eq.{bytes_eq-Decides}
use Rattle.std.proofs.lemmas.List.Sums.{sum_by-cons}
use Rattle.std.specs.List.{list_any, filter, count_by}
use Rattle.volume_model.specs.declared.directory.Slot.{Slot}
use Rattle.volume_model.specs.Sound.{Names, MakeATree, dot, dot_dot, is_used_in, is_directory_in, slots_at, parent_at, begins_right, has_twice, names_unused}
use Rattle.history_rules.proofs.NameLaws.{named, skip, takes}
use Rattle.history_rules.proofs.EnterLaws.{slot_sum}
use Rattle.history_rules.proofs.SlotRuleLaws.{of_inode, one_if, any_none, none_any, any_fewer, twice_counts, counts_twice, of_name, of_unused, of_entry, in_use, entries_of, count_names, count_unused, count_entries}
use Rattle.history_rules.proofs.RightNameLaws.{directory_of, slots_from, parent_in, entry_other, no_zero, parent_directory, parent_used}
use Rattle.history_rules.proofs.ChangedRightLaws.{BeginsAs, begin_parts, same_slots, still_used, was_good, was_used, changed_right}
use Rattle.history_rules.proofs.LeaveLaws.{LeavesFrom, leaves-sum, leaves_begins}

-- Slots that name inodes in use still do where one inode may have gone that they don't name.
pub without : (used later : ℕ → Bool) (i : ℕ) → ((k : ℕ) → k ≢ i → used k ≡ true → later k ≡ true) → (slots : List Slot) → list_any (λ s. not (used s.ino)) (in_use slots) ≡ false
    → slot_sum (of_inode i) slots ≡ 0 → list_any (λ s. not (later s.ino)) (in_use slots) ≡ false
without used later i stays [] was none = refl
without used later i stays (s ∷ slots) was none =
    let at = sum_by-cons (λ (t : Slot). of_inode i t.ino t.name) s slots in
    let by : (ℕ → Bool) → Bool → Bool = λ is free. list_any (λ (t : Slot). not (is t.ino)) (cond (not free) (s ∷ in_use slots) (in_use slots)) in
    elim (cases_Bool (s.ino == 0)) [
      | inl free ↦ ap (by later) free ∙ without used later i stays slots (sym (ap (by used) free) ∙ was) (omega (arith, at, none))
      | inr taken ↦
          let parts = or_parts (not (used s.ino)) (list_any (λ t. not (used t.ino)) (in_use slots)) (sym (ap (by used) taken) ∙ was) in
          let apart : s.ino ≢ i = λ e. (let one : one_if (s.ino == i) ≡ 1 = ap one_if (eq-eqb s.ino i e) in omega (arith, at, none, one)) in
          let now_used = stays s.ino apart (not-false (used s.ino) parts.0) in
          ap (by later) taken
          ∙ or_from (not (later s.ino)) (list_any (λ t. not (later t.ino)) (in_use slots)) (not_from_true (later s.ino) now_used)
          (without used later i stays slots parts.1 (omega (arith, at, none)))
    ]

-- what the first two slots of a directory name
module _ (dir parent : ℕ) (real : dir ≢ 0) (above : parent ≢ 0) where
  pub named_dot : (xs : List Slot) → BeginsAs dir parent xs → named xs dot ≡ Some dir
  named_dot [] is = absurd (true≢false (sym is.0))
  named_dot (s ∷ []) is = absurd (true≢false (sym is.0))
  named_dot (s ∷ (t ∷ xs)) is =
      let parts = begin_parts dir s t xs is.0 in
      let used : s.ino ≢ 0 = λ e. real (sym parts.2 ∙ e) in
      takes s (t ∷ xs) dot (and_from (not (s.ino == 0)) (bytes_eq s.name dot) (not_from_false (s.ino == 0) (ne_eqb s.ino 0 used)) parts.0) ∙ ap (λ (k : ℕ). Some k) parts.2

  pub named_dot_dot : (xs : List Slot) → BeginsAs dir parent xs → named xs dot_dot ≡ Some parent
  named_dot_dot [] is = absurd (true≢false (sym is.0))
  named_dot_dot (s ∷ []) is = absurd (true≢false (sym is.0))
  named_dot_dot (s ∷ (t ∷ xs)) is =
      let parts = begin_parts dir s t xs is.0 in
      let short : bytes_eq s.name dot_dot ≡ false = ap (λ (l : List ℕ). bytes_eq l dot_dot) ((bytes_eq-Decides s.name dot).0 parts.0) in
      let used : t.ino ≢ 0 = λ e. above (sym is.1 ∙ e) in
      skip s (t ∷ xs) dot_dot (and_right (not (s.ino == 0)) (bytes_eq s.name dot_dot) short)
      ∙ takes t xs dot_dot (and_from (not (t.ino == 0)) (bytes_eq t.name dot_dot) (not_from_false (t.ino == 0) (ne_eqb t.ino 0 used)) parts.3) ∙ ap (λ (k : ℕ). Some k) is.1

some_same : (a b : ℕ) → Some a ≡ Some b → a ≡ b
some_same a b is = cc

-- an inode that is no directory has another name than these two
module _ (n : ℕ) (m : Names) (right : MakeATree n m) (dir : ℕ) (xs : List Slot) (there : m dir ≡ Some (Some xs)) (below : dir < n) (begins : begins_right dir xs ≡ true) where
  is_dir : is_directory_in m dir ≡ true
  is_dir = ap directory_of there

  above_is : parent_at m dir ≡ parent_in xs
  above_is = ap (λ (o : Option (Option (List Slot))). parent_in (slots_from o)) there

  real_dir : dir ≢ 0
  real_dir e = no_zero n m right (omega arith) (ap (is_directory_in m) (sym e) ∙ is_dir)

  real_above : parent_in xs ≢ 0
  real_above e = parent_used n m right dir below is_dir (above_is ∙ e)

  pub not_dots : (name : List ℕ) (i : ℕ) → named xs name ≡ Some i → is_directory_in m i ≡ false → (name ≢ dot) × (name ≢ dot_dot)
  not_dots name i found plain = (
    λ e.
        let same : dir ≡ i = some_same dir i (sym (named_dot dir (parent_in xs) real_dir real_above xs (begins, refl)) ∙ ap (named xs) (sym e) ∙ found) in
        true≢false (sym is_dir ∙ ap (is_directory_in m) same ∙ plain),
    λ e.
        let same : parent_in xs ≡ i = some_same (parent_in xs) i (sym (named_dot_dot dir (parent_in xs) real_dir real_above xs (begins, refl)) ∙ ap (named xs) (sym e) ∙ found) in
        true≢false (sym (parent_directory n m right dir below is_dir) ∙ ap (is_directory_in m) (above_is ∙ same) ∙ plain),
  )

module _ (n : ℕ) (m after : Names) (right : MakeATree n m) (dir i : ℕ) (name : List ℕ) (xs ys : List Slot) (there : m dir ≡ Some (Some xs)) (now : after dir ≡ Some (Some ys)) (below : dir < n)
    (leaves : LeavesFrom name i xs ys) (found : named xs name ≡ Some i) (plain : is_directory_in m i ≡ false) (still_plain : is_directory_in after i ≡ false)
    (others : (k : ℕ) → k ≢ dir → k ≢ i → after k ≡ m k)
    (stays_or_gone : (is_used_in after i ≡ true) ⊎ ((k : ℕ) → k < n → slot_sum (of_inode i) (slots_at after k) ≡ 0)) where
  sums : (v : ℕ → List ℕ → ℕ) → ((other : List ℕ) → v 0 other ≡ 0) → slot_sum v ys + v i name ≡ slot_sum v xs
  sums v unused = leaves-sum name i v unused xs ys leaves

  good : (begins_right dir xs ≡ true) × (has_twice (in_use xs) ≡ false)
  good = was_good n m after right dir i xs ys there now below plain still_plain others

  begins : BeginsAs dir (parent_in xs) ys
  begins =
      let other = not_dots n m right dir xs there below good.0 name i found plain in
      leaves_begins name i dir (parent_in xs) other.0 other.1 xs ys leaves (good.0, refl)

  once : has_twice (in_use ys) ≡ false
  once = counts_twice (in_use ys) (λ other. omega (arith, sums (of_name other) (λ l. refl), count_names other ys, count_names other xs, twice_counts (in_use xs) good.1 other))

  -- what is named was in use
  named_was_used : (k : ℕ) → k < n → list_any (λ s. not (is_used_in m s.ino)) (in_use (slots_at after k)) ≡ false
  named_was_used k less = elim (cases_eq k dir) [
    | inl at ↦
        let before = any_none (λ (s : Slot). not (is_used_in m s.ino)) (in_use xs) (was_used n m after right dir i xs ys there now below plain still_plain others) in
        let none : count_by (λ s. not (is_used_in m s.ino)) (in_use ys) ≡ 0 =
        omega (arith, sums (of_unused (is_used_in m)) (λ l. refl), count_unused (is_used_in m) ys, count_unused (is_used_in m) xs, before) in
        ap (λ (j : ℕ). list_any (λ s. not (is_used_in m s.ino)) (in_use (slots_at after j))) at
        ∙ ap (λ (o : Option (Option (List Slot))). list_any (λ s. not (is_used_in m s.ino)) (in_use (slots_from o))) now
        ∙ none_any (λ (s : Slot). not (is_used_in m s.ino)) (in_use ys) none
    | inr apart ↦
        ap (λ (slots : List Slot). list_any (λ s. not (is_used_in m s.ino)) (in_use slots)) (same_slots n m after right dir i xs ys there now below plain still_plain others k apart) ∙ right.used k less
  ]

  stays : (k : ℕ) → k ≢ i → is_used_in m k ≡ true → is_used_in after k ≡ true
  stays k other = still_used n m after right dir i xs ys there now below plain still_plain others k other

  less_used : (k : ℕ) → is_used_in after i ≡ true → not (is_used_in after k) ≡ true → not (is_used_in m k) ≡ true
  less_used k kept not_now = elim (cases_Bool (is_used_in m k)) [
    | inl used ↦ absurd (elim (cases_eq k i) [
      | inl at ↦ true≢false (sym (ap (is_used_in after) at ∙ kept) ∙ not-true (is_used_in after k) not_now)
      | inr other ↦ true≢false (sym (stays k other used) ∙ not-true (is_used_in after k) not_now)
    ])
    | inr free ↦ not_from_false (is_used_in m k) free
  ]

  used : (k : ℕ) → k < n → names_unused after k ≡ false
  used k less = by_case stays_or_gone where
    by_case : (is_used_in after i ≡ true) ⊎ ((j : ℕ) → j < n → slot_sum (of_inode i) (slots_at after j) ≡ 0) → names_unused after k ≡ false
    by_case (inl kept) = any_fewer (λ (s : Slot). not (is_used_in m s.ino)) (λ (s : Slot). not (is_used_in after s.ino)) (λ s not_now. less_used s.ino kept not_now) (in_use (slots_at after k)) (named_was_used k less)
    by_case (inr gone) = without (is_used_in m) (is_used_in after) i stays (slots_at after k) (named_was_used k less) (gone k less)

  entries : (k : ℕ) → k ≢ i → length (filter (λ s. s.ino == k) (entries_of ys)) ≡ length (filter (λ s. s.ino == k) (entries_of xs))
  entries k other =
      let none : of_entry k i name ≡ 0 = entry_other k i name (ne_eqb i k (λ e. other (sym e))) in
      omega (arith, count_entries k ys, count_entries k xs, sums (of_entry k) (λ l. refl), none)

  pub leave_right : MakeATree n after
  leave_right = changed_right n m after right dir i xs ys there now below plain still_plain others begins once used entries
