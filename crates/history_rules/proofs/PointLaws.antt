-- What a name that is given to another inode changes of the slots of a directory: where its slot stands, and their sums.
use Rattle.std.proofs.Common.{◌≡◌, ◌≢◌, ◌<◌, ℕ, zero, suc, ◌+◌, ◌==◌, true, false, List, [], ◌∷◌, ◌++◌, length, get_or, Option, Some, None, refl, sym, ap, subst, ◌∙◌, arith, bytes_eq}
use Rattle.std.proofs.lemmas.Bool.{and_from, true≢false, ne_eqb, not_from_false}
use Rattle.std.proofs.lemmas.Slice.Eq.{bytes_eq-Decides}
use Rattle.std.proofs.lemmas.List.Sums.{sum_by-cons, sum_by-append}
use Rattle.std.proofs.lemmas.List.Quantifiers.{position-Some}
use Rattle.std.specs.Prelude.{not}
use Rattle.std.specs.Option.{option_or}
use Rattle.volume_model.specs.declared.directory.Slot.{Slot}
use Rattle.volume_model.specs.Format.{found_at, with_ino}
use Rattle.volume_model.specs.Sound.{dot, dot_dot}
use Rattle.history_model.specs.Places.{has_name}
use Rattle.history_model.specs.Edits.{pointed_in}
use Rattle.history_rules.proofs.NameLaws.{named, skip, none_in, named_append, has_no_other}
use Rattle.history_rules.proofs.EnterLaws.{all_slots, slot_sum}
use Rattle.history_rules.proofs.ChangedRightLaws.{BeginsAs, begin_parts}
use Rattle.history_rules.proofs.LeaveLaws.{first_is, not_found, name_is, not_first, not_second}

-- the first slot that has the name named one inode and names another one
pub record PointsIn (name : List ℕ) (was i : ℕ) (xs ys : List Slot) : Type 0 where
  pub front : List Slot
  pub slot : Slot
  pub back : List Slot
  pub holds : has_name name slot ≡ true
  pub named_was : slot.ino ≡ was
  pub first : named front name ≡ None
  pub before : xs ≡ front ++ (slot ∷ back)
  pub after : ys ≡ front ++ (record slot { ino = i } ∷ back)

module _ (name : List ℕ) (was i : ℕ) where
  behind_one : (x : Slot) (xs ys : List Slot) → has_name name x ≡ false → PointsIn name was i xs ys → PointsIn name was i (x ∷ xs) (x ∷ ys)
  behind_one x xs ys fails points = record {
    front = x ∷ points.front;
    slot = points.slot;
    back = points.back;
    holds = points.holds;
    named_was = points.named_was;
    first = skip x points.front name fails ∙ points.first;
    before = ap (λ (l : List Slot). x ∷ l) points.before;
    after = ap (λ (l : List Slot). x ∷ l) points.after;
  }

  behind : (front xs ys : List Slot) → named front name ≡ None → PointsIn name was i xs ys → PointsIn name was i (front ++ xs) (front ++ ys)
  behind [] xs ys none points = points
  behind (x ∷ front) xs ys none points =
      let parts = none_in x front name none in
      behind_one x (front ++ xs) (front ++ ys) parts.0 (behind front xs ys parts.1 points)

  abbrev empty : Slot
  empty = record { ino = 0; len = 0; name = [] }

  points_at : (slots : List Slot) (place : ℕ) (more : List Slot) → place < length slots → has_name name (get_or slots place empty) ≡ true → (get_or slots place empty).ino ≡ was
      → ((k : ℕ) → k < place → has_name name (get_or slots k empty) ≡ false) → PointsIn name was i (slots ++ more) (with_ino slots place i ++ more)
  points_at [] place more below holds is before = absurd (omega arith)
  points_at (s ∷ slots) zero more below holds is before =
      record { front = []; slot = s; back = slots ++ more; holds = holds; named_was = is; first = refl; before = refl; after = refl }
  points_at (s ∷ slots) (suc place) more below holds is before =
      behind_one s (slots ++ more) (with_ino slots place i ++ more) (before 0 (omega arith)) (points_at slots place more (omega arith) holds is (λ k less. before (suc k) (omega arith)))

  by_found : (chunk : List Slot) (chunks : List (List Slot)) (found : Option ℕ) → found_at chunk name ≡ found
      → (named (all_slots chunks) name ≡ Some was → PointsIn name was i (all_slots chunks) (all_slots (pointed_in chunks name i))) → named (chunk ++ all_slots chunks) name ≡ Some was
      → PointsIn name was i (chunk ++ all_slots chunks)
      (all_slots (let after : List (List Slot) = elim found [ Some place ↦ with_ino chunk place i ∷ chunks | None ↦ chunk ∷ pointed_in chunks name i ] in after))
  by_found chunk chunks None found more is =
      let none = not_found name was chunk found in
      let rest : named (all_slots chunks) name ≡ Some was = sym (named_append chunk (all_slots chunks) name ∙ ap (λ (o : Option ℕ). option_or o (named (all_slots chunks) name)) none) ∙ is in
      behind chunk (all_slots chunks) (all_slots (pointed_in chunks name i)) none (more rest)
  by_found chunk chunks (Some place) found more is =
      let at = position-Some (has_name name) chunk place empty found in
      points_at chunk place (all_slots chunks) at.0 at.1 (first_is name was chunk place (all_slots chunks) at.0 at.1 at.2 is) at.2

  pub points : (chunks : List (List Slot)) → named (all_slots chunks) name ≡ Some was → PointsIn name was i (all_slots chunks) (all_slots (pointed_in chunks name i))
  points [] is = absurd (let e : None ≡ Some was = is in cc)
  points (chunk ∷ chunks) is = by_found chunk chunks (found_at chunk name) refl (points chunks) is

  module _ (xs ys : List Slot) (points : PointsIn name was i xs ys) where
    pub points-sum : (v : ℕ → List ℕ → ℕ) → slot_sum v ys + v was name ≡ slot_sum v xs + v i name
    points-sum v =
        let weight : Slot → ℕ = λ s. v s.ino s.name in
        let turned : Slot = record points.slot { ino = i } in
        let same : points.slot.name ≡ name = name_is name was points.slot points.holds in
        let old : weight points.slot ≡ v was name = ap (λ (k : ℕ). v k points.slot.name) points.named_was ∙ ap (v was) same in
        let new : weight turned ≡ v i name = ap (v i) same in
        omega (
          arith,
          ap (slot_sum v) points.before,
          ap (slot_sum v) points.after,
          sum_by-append weight points.front (points.slot ∷ points.back),
          sum_by-cons weight points.slot points.back,
          sum_by-append weight points.front (turned ∷ points.back),
          sum_by-cons weight turned points.back,
          old,
          new,
        )

    -- each other name is that of the same inode as before
    pub points_others : (other : List ℕ) → other ≢ name → named ys other ≡ named xs other
    points_others other differ =
        let turned : Slot = record points.slot { ino = i } in
        let same : points.slot.name ≡ name = name_is name was points.slot points.holds in
        let tail : named (turned ∷ points.back) other ≡ named (points.slot ∷ points.back) other =
        skip turned points.back other (has_no_other turned other (λ e. differ (e ∙ same))) ∙ sym (skip points.slot points.back other (has_no_other points.slot other (λ e. differ (e ∙ same)))) in
        ap (λ (l : List Slot). named l other) points.after ∙ named_append points.front (turned ∷ points.back) other
        ∙ ap (λ (o : Option ℕ). option_or (named points.front other) o) tail
        ∙ sym (ap (λ (l : List Slot). named l other) points.before ∙ named_append points.front (points.slot ∷ points.back) other)

    module _ (dir parent : ℕ) where
      -- a slot with another name than these two is neither of the first two
      kept_begins : (front : List Slot) (s : Slot) (back : List Slot) → name ≢ dot → name ≢ dot_dot → has_name name s ≡ true → BeginsAs dir parent (front ++ (s ∷ back))
          → BeginsAs dir parent (front ++ (record s { ino = i } ∷ back))
      kept_begins [] s back not_dot not_dot_dot holds is = absurd (not_first name was dir parent not_dot not_dot_dot s back holds is)
      kept_begins (x ∷ []) s back not_dot not_dot_dot holds is = absurd (not_second name was dir parent not_dot not_dot_dot x s back holds is)
      kept_begins (x ∷ (y ∷ front)) s back not_dot not_dot_dot holds is = is

      pub points_begins : name ≢ dot → name ≢ dot_dot → BeginsAs dir parent xs → BeginsAs dir parent ys
      points_begins not_dot not_dot_dot is =
          subst (BeginsAs dir parent) (sym points.after) (kept_begins points.front points.slot points.back not_dot not_dot_dot points.holds (subst (BeginsAs dir parent) points.before is))

-- the second slot names another directory above
module _ (was i dir parent : ℕ) (above : parent ≢ 0) where
  turned_begins : (front : List Slot) (s : Slot) (back : List Slot) → has_name dot_dot s ≡ true → named front dot_dot ≡ None → BeginsAs dir parent (front ++ (s ∷ back))
      → BeginsAs dir i (front ++ (record s { ino = i } ∷ back))
  turned_begins [] s [] holds first is = absurd (true≢false (sym is.0))
  turned_begins [] s (t ∷ back) holds first is =
      let parts = begin_parts dir s t back is.0 in
      let short : s.name ≡ dot = (bytes_eq-Decides s.name dot).0 parts.0 in
      absurd (true≢false (ap (λ (l : List ℕ). bytes_eq l dot_dot) (sym (name_is dot_dot was s holds)) ∙ ap (λ (l : List ℕ). bytes_eq l dot_dot) short))
  turned_begins (x ∷ []) s back holds first is = (is.0, refl)
  turned_begins (x ∷ (y ∷ front)) s back holds first is =
      let parts = begin_parts dir x y (front ++ (s ∷ back)) is.0 in
      let used : y.ino ≢ 0 = λ e. above (sym is.1 ∙ e) in
      let has : has_name dot_dot y ≡ true = and_from (not (y.ino == 0)) (bytes_eq y.name dot_dot) (not_from_false (y.ino == 0) (ne_eqb y.ino 0 used)) parts.3 in
      let behind_x = none_in x (y ∷ front) dot_dot first in
      absurd (true≢false (sym has ∙ (none_in y front dot_dot behind_x.1).0))

  pub turns_begins : (xs ys : List Slot) → PointsIn dot_dot was i xs ys → BeginsAs dir parent xs → BeginsAs dir i ys
  turns_begins xs ys points is =
      subst (BeginsAs dir i) (sym points.after) (turned_begins points.front points.slot points.back points.holds points.first (subst (BeginsAs dir parent) points.before is))
