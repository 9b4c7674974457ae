-- Names that make a tree still do once a name of an inode that is no directory is entered.
use Rattle.std.proofs.Common.{◌≡◌, ◌≢◌, ◌≤◌, ◌<◌, ◌⊎◌, ℕ, ◌+◌, ◌-◌, ◌==◌, Bool, true, false, not, cond, List, [], ◌∷◌, ◌++◌, length, Option, Some, refl, sym, ap, subst, inl, inr, ◌∙◌, arith, bytes_eq}
use Rattle.std.proofs.lemmas.Bool.{cases_Bool, cases_eq, true≢false, ne_eqb, leb-true, not_from_false, not-true}
use Rattle.std.proofs.lemmas.Slice.Eq.{bytes_eq-Decides}
use Rattle.std.specs.List.{list_any, filter, count_by}
use Rattle.volume_model.specs.declared.directory.Slot.{Slot}
use Rattle.volume_model.specs.Format.{kept_length, least_length, entered, one_slot}
use Rattle.volume_model.specs.Sound.{Names, MakeATree, dot, is_used_in, is_directory_in, slots_at, begins_right, has_twice, names_unused}
use Rattle.history_rules.proofs.EnterLaws.{EntersIn, Takes, Follows, has_room, slot_sum, enters-sum}
use Rattle.history_rules.proofs.SlotRuleLaws.{any_none, none_any, any_fewer, twice_counts, counts_twice, named_so, of_name, of_unused, of_entry, in_use, entries_of, count_names, count_unused, count_entries}
use Rattle.history_rules.proofs.RightNameLaws.{name_by, directory_of, slots_from, parent_in, entry_other, no_zero, parent_used}
use Rattle.history_rules.proofs.ChangedRightLaws.{BeginsAs, begin_parts, same_slots, still_used, was_good, was_used, changed_right}

module _ (name : List ℕ) (i dir parent : ℕ) (real : dir ≢ 0) (above : parent ≢ 0) where
  follows_begins : (xs more : List Slot) → BeginsAs dir parent xs → BeginsAs dir parent (xs ++ more)
  follows_begins [] more is = absurd (true≢false (sym is.0))
  follows_begins (s ∷ []) more is = absurd (true≢false (sym is.0))
  follows_begins (s ∷ (t ∷ xs)) more is = is

  takes_begins : (front : List Slot) (s : Slot) (back : List Slot) → has_room name s ≡ true → BeginsAs dir parent (front ++ (s ∷ back)) → BeginsAs dir parent (front ++ (entered s name i ++ back))
  takes_begins [] s [] room is = absurd (true≢false (sym is.0))
  takes_begins [] s (t ∷ back) room is =
      let parts = begin_parts dir s t back is.0 in
      let short : s.name ≡ dot = (bytes_eq-Decides s.name dot).0 parts.0 in
      let used : s.ino ≢ 0 = λ e. real (sym parts.2 ∙ e) in
      let kept : kept_length s ≡ least_length (length s.name) = ap (λ (b : Bool). cond b 0 (least_length (length s.name))) (ne_eqb s.ino 0 used) in
      let twelve : least_length (length s.name) ≡ 12 = ap (λ (l : List ℕ). least_length (length l)) short in
      let fits : least_length (length name) ≤ s.len - kept_length s = leb-true (least_length (length name)) (s.len - kept_length s) room in
      let long : s.len ≡ 12 = parts.1 in
      absurd (omega arith)
  takes_begins (x ∷ []) s back room is =
      let used : s.ino ≢ 0 = λ e. above (sym is.1 ∙ e) in
      let by : Bool → List Slot = λ b. cond b (record s { ino = i; name = name } ∷ []) (record s { len = kept_length s } ∷ (record { ino = i; len = s.len - kept_length s; name = name } ∷ [])) in
      subst (λ (b : Bool). BeginsAs dir parent (x ∷ (by b ++ back))) (sym (ne_eqb s.ino 0 used)) is
  takes_begins (x ∷ (y ∷ front)) s back room is = is

  pub enters_begins : (xs ys : List Slot) → EntersIn name i xs ys → BeginsAs dir parent xs → BeginsAs dir parent ys
  enters_begins xs ys (Takes front s back room before after) is = subst (BeginsAs dir parent) (sym after) (takes_begins front s back room (subst (BeginsAs dir parent) before is))
  enters_begins xs ys (Follows after) is = subst (BeginsAs dir parent) (sym after) (follows_begins xs (one_slot name i) is)

pub no_name : (a b : Bool) → b ≡ false → name_by a b ≡ 0
no_name true true is = absurd (true≢false is)
no_name true false is = refl
no_name false b is = refl

pub at_most : (a b : Bool) → name_by a b ≤ 1
at_most true true = omega arith
at_most true false = omega arith
at_most false b = omega arith

abbrev pub unused_by : (a b : Bool) → ℕ
unused_by a b = cond a (cond (not b) 1 0) 0

pub none_unused : (a : Bool) → unused_by a true ≡ 0
none_unused true = refl
none_unused false = refl

module _ (n : ℕ) (m after : Names) (right : MakeATree n m) (dir i : ℕ) (name : List ℕ) (xs ys : List Slot) (there : m dir ≡ Some (Some xs)) (now : after dir ≡ Some (Some ys)) (below : dir < n)
    (enters : EntersIn name i xs ys) (absent : slot_sum (of_name name) xs ≡ 0) (plain : is_directory_in m i ≡ false) (still_plain : is_directory_in after i ≡ false)
    (in_use_now : is_used_in after i ≡ true) (others : (k : ℕ) → k ≢ dir → k ≢ i → after k ≡ m k) where
  sums : (v : ℕ → List ℕ → ℕ) → ((other : List ℕ) → v 0 other ≡ 0) → slot_sum v ys ≡ slot_sum v xs + v i name
  sums v unused = enters-sum name i v unused xs ys enters

  good : (begins_right dir xs ≡ true) × (has_twice (in_use xs) ≡ false)
  good = was_good n m after right dir i xs ys there now below plain still_plain others

  begins : BeginsAs dir (parent_in xs) ys
  begins =
      let is = ap directory_of there in
      enters_begins name i dir (parent_in xs) (λ e. no_zero n m right (omega arith) (ap (is_directory_in m) (sym e) ∙ is))
      (λ e. parent_used n m right dir below is (ap (λ (o : Option (Option (List Slot))). parent_in (slots_from o)) there ∙ e)) xs ys enters (good.0, refl)

  once : has_twice (in_use ys) ≡ false
  once = counts_twice (in_use ys) (λ other. few other (cases_Bool (bytes_eq name other))) where
    few : (other : List ℕ) → (bytes_eq name other ≡ true) ⊎ (bytes_eq name other ≡ false) → count_by (named_so other) (in_use ys) ≤ 1
    few other (inl same) =
        let is : name ≡ other = (bytes_eq-Decides name other).0 same in
        let none : slot_sum (of_name other) xs ≡ 0 = ap (λ (l : List ℕ). slot_sum (of_name l) xs) (sym is) ∙ absent in
        omega (arith, sums (of_name other) (λ l. refl), count_names other ys, none, at_most (not (i == 0)) (bytes_eq name other))
    few other (inr differ) =
        let none : of_name other i name ≡ 0 = no_name (not (i == 0)) (bytes_eq name other) differ in
        omega (arith, sums (of_name other) (λ l. refl), count_names other ys, none, count_names other xs, twice_counts (in_use xs) good.1 other)

  -- each inode in use is so still
  all_used : (k : ℕ) → is_used_in m k ≡ true → is_used_in after k ≡ true
  all_used k is = elim (cases_eq k i) [
    | inl at ↦ ap (is_used_in after) at ∙ in_use_now
    | inr other ↦ still_used n m after right dir i xs ys there now below plain still_plain others k other is
  ]

  used_less : (k : ℕ) → not (is_used_in after k) ≡ true → not (is_used_in m k) ≡ true
  used_less k not_now = elim (cases_Bool (is_used_in m k)) [
    | inl used ↦ absurd (true≢false (sym (all_used k used) ∙ not-true (is_used_in after k) not_now))
    | inr free ↦ not_from_false (is_used_in m k) free
  ]

  fewer : (slots : List Slot) → list_any (λ s. not (is_used_in m s.ino)) (in_use slots) ≡ false → list_any (λ s. not (is_used_in after s.ino)) (in_use slots) ≡ false
  fewer slots = any_fewer (λ (s : Slot). not (is_used_in m s.ino)) (λ (s : Slot). not (is_used_in after s.ino)) (λ s. used_less s.ino) (in_use slots)

  used : (k : ℕ) → k < n → names_unused after k ≡ false
  used k less = elim (cases_eq k dir) [
    | inl at ↦
        let before = was_used n m after right dir i xs ys there now below plain still_plain others in
        let zero : count_by (λ s. not (is_used_in after s.ino)) (in_use xs) ≡ 0 = any_none (λ (s : Slot). not (is_used_in after s.ino)) (in_use xs) (fewer xs before) in
        let none : of_unused (is_used_in after) i name ≡ 0 = ap (unused_by (not (i == 0))) in_use_now ∙ none_unused (not (i == 0)) in
        let count : count_by (λ s. not (is_used_in after s.ino)) (in_use ys) ≡ 0 =
        omega (arith, sums (of_unused (is_used_in after)) (λ l. refl), count_unused (is_used_in after) ys, count_unused (is_used_in after) xs, none, zero) in
        ap (names_unused after) at ∙ ap (λ (o : Option (Option (List Slot))). list_any (λ s. not (is_used_in after s.ino)) (in_use (slots_from o))) now
        ∙ none_any (λ (s : Slot). not (is_used_in after s.ino)) (in_use ys) count
    | inr apart ↦
        ap (λ (slots : List Slot). list_any (λ s. not (is_used_in after s.ino)) (in_use slots)) (same_slots n m after right dir i xs ys there now below plain still_plain others k apart)
        ∙ fewer (slots_at m k) (right.used k less)
  ]

  entries : (k : ℕ) → k ≢ i → length (filter (λ s. s.ino == k) (entries_of ys)) ≡ length (filter (λ s. s.ino == k) (entries_of xs))
  entries k other =
      let none : of_entry k i name ≡ 0 = entry_other k i name (ne_eqb i k (λ e. other (sym e))) in
      omega (arith, count_entries k ys, count_entries k xs, sums (of_entry k) (λ l. refl), none)

  pub enter_right : MakeATree n after
  enter_right = changed_right n m after right dir i xs ys there now below plain still_plain others begins once used entries
