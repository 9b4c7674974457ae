-- What a name that is entered changes of the slots of a directory: where they are cut, and their sums.
use Rattle.std.proofs.Common.{◌≡◌, ◌<◌, ℕ, zero, suc, ◌+◌, ◌-◌, ◌==◌, Bool, true, false, cond, List, [], ◌∷◌, ◌++◌, length, get_or, Option, Some, None, refl, ap, inl, inr, ◌∙◌, arith, sum_by, append_assoc}
use Rattle.std.proofs.lemmas.Bool.{cases_Bool, eqb-true}
use Rattle.std.proofs.lemmas.List.Sums.{sum_by-cons, sum_by-append}
use Rattle.std.proofs.lemmas.List.Quantifiers.{position-Some}
use Rattle.std.specs.Prelude.{is_some, nat_le}
use Rattle.std.specs.List.{flat_map}
use Rattle.std.specs.Option.{option_map_or}
use Rattle.volume_model.specs.declared.directory.Slot.{Slot}
use Rattle.volume_model.specs.Format.{kept_length, least_length, room_in, entered, with_name_at, one_slot}
use Rattle.history_model.specs.Edits.{entered_in}

abbrev pub all_slots : List (List Slot) → List Slot
all_slots chunks = flat_map (λ chunk. chunk) chunks

abbrev pub has_room : List ℕ → Slot → Bool
has_room name s = nat_le (least_length (length name)) (s.len - kept_length s)

-- a slot with room takes the name, or a new slot does
pub data EntersIn (name : List ℕ) (i : ℕ) (xs ys : List Slot) : Type 0 where
  Takes : (front : List Slot) (s : Slot) (back : List Slot) → has_room name s ≡ true → xs ≡ front ++ (s ∷ back) → ys ≡ front ++ (entered s name i ++ back) → EntersIn name i xs ys
  Follows : ys ≡ xs ++ one_slot name i → EntersIn name i xs ys

-- what each slot in use weighs by its inode and its name
abbrev pub slot_sum : (ℕ → List ℕ → ℕ) → List Slot → ℕ
slot_sum v slots = sum_by (λ s. v s.ino s.name) slots

module _ (name : List ℕ) (i : ℕ) where
  behind_one : (x : Slot) (xs ys : List Slot) → EntersIn name i xs ys → EntersIn name i (x ∷ xs) (x ∷ ys)
  behind_one x xs ys (Takes front s back room before after) = Takes (x ∷ front) s back room (ap (λ (l : List Slot). x ∷ l) before) (ap (λ (l : List Slot). x ∷ l) after)
  behind_one x xs ys (Follows after) = Follows (ap (λ (l : List Slot). x ∷ l) after)

  behind : (front xs ys : List Slot) → EntersIn name i xs ys → EntersIn name i (front ++ xs) (front ++ ys)
  behind [] xs ys enters = enters
  behind (x ∷ front) xs ys enters = behind_one x (front ++ xs) (front ++ ys) (behind front xs ys enters)

  abbrev empty : Slot
  empty = record { ino = 0; len = 0; name = [] }

  at_place : (slots : List Slot) (place : ℕ) (more : List Slot) → place < length slots → has_room name (get_or slots place empty) ≡ true
      → EntersIn name i (slots ++ more) (with_name_at slots place name i ++ more)
  at_place [] place more below room = absurd (omega arith)
  at_place (s ∷ slots) zero more below room = Takes [] s (slots ++ more) room refl (append_assoc (entered s name i) slots more)
  at_place (s ∷ slots) (suc place) more below room = behind_one s (slots ++ more) (with_name_at slots place name i ++ more) (at_place slots place more (omega arith) room)

  by_room : (chunk : List Slot) (chunks : List (List Slot)) (room : Option ℕ) → room_in chunk name ≡ room → EntersIn name i (all_slots chunks) (all_slots (entered_in chunks name i))
      → EntersIn name i (chunk ++ all_slots chunks)
      (all_slots (elim (is_some room) [ true ↦ option_map_or (λ place. with_name_at chunk place name i) room chunk ∷ chunks | false ↦ chunk ∷ entered_in chunks name i ]))
  by_room chunk chunks None is more = behind chunk (all_slots chunks) (all_slots (entered_in chunks name i)) more
  by_room chunk chunks (Some place) is more =
      let at = position-Some (has_room name) chunk place empty is in
      at_place chunk place (all_slots chunks) at.0 at.1

  pub enters : (chunks : List (List Slot)) → EntersIn name i (all_slots chunks) (all_slots (entered_in chunks name i))
  enters [] = Follows refl
  enters (chunk ∷ chunks) = by_room chunk chunks (room_in chunk name) refl (enters chunks)

  module _ (v : ℕ → List ℕ → ℕ) (unused : (other : List ℕ) → v 0 other ≡ 0) where
    abbrev weight : Slot → ℕ
    weight s = v s.ino s.name

    abbrev entered_by : Bool → Slot → List Slot
    entered_by b s = cond b (record s { ino = i; name = name } ∷ []) (record s { len = kept_length s } ∷ (record { ino = i; len = s.len - kept_length s; name = name } ∷ []))

    entered_sum : (s : Slot) → slot_sum v (entered s name i) ≡ weight s + v i name
    entered_sum s =
        elim (cases_Bool (s.ino == 0)) [
          | inl free ↦
              let e : slot_sum v (entered s name i) ≡ 0 + v i name = ap (λ (b : Bool). slot_sum v (entered_by b s)) free in
              let none : weight s ≡ 0 = ap (λ (k : ℕ). v k s.name) (eqb-true s.ino 0 free) ∙ unused s.name in
              omega (arith, e, none)
          | inr taken ↦
              let e : slot_sum v (entered s name i) ≡ 0 + weight s + v i name = ap (λ (b : Bool). slot_sum v (entered_by b s)) taken in
              omega (arith, e)
        ]

    pub enters-sum : (xs ys : List Slot) → EntersIn name i xs ys → slot_sum v ys ≡ slot_sum v xs + v i name
    enters-sum xs ys (Takes front s back room before after) =
        omega (
          arith,
          ap (slot_sum v) before,
          ap (slot_sum v) after,
          sum_by-append weight front (s ∷ back),
          sum_by-cons weight s back,
          sum_by-append weight front (entered s name i ++ back),
          sum_by-append weight (entered s name i) back,
          entered_sum s,
        )
    enters-sum xs ys (Follows after) =
        let one : slot_sum v (one_slot name i) ≡ 0 + v i name = refl in
        omega (arith, ap (slot_sum v) after, sum_by-append weight xs (one_slot name i), one)
