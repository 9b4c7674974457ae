-- What a directory names once a name is entered.
use Rattle.std.proofs.Common.{◌≡◌, ◌≢◌, ◌<◌, ℕ, zero, suc, Bool, true, false, not, ◌&&◌, ◌==◌, cond, List, [], ◌∷◌, ◌++◌, length, Option, Some, None, refl, sym, ap, inl, inr, ◌∙◌, bytes_eq, arith, option_map}
use Rattle.std.proofs.lemmas.Bool.{cases_Bool, ne_eqb}
use Rattle.std.proofs.lemmas.Slice.Eq.{bytes_eq-Decides}
use Rattle.std.proofs.lemmas.List.Quantifiers.{position-Some}
use Rattle.std.specs.Prelude.{find, is_some, nat_le, ◌-◌}
use Rattle.std.specs.List.{flat_map}
use Rattle.std.specs.Option.{option_or, option_map_or}
use Rattle.volume_model.specs.declared.directory.Slot.{Slot}
use Rattle.volume_model.specs.Format.{kept_length, least_length, room_in, entered, with_name_at, one_slot}
use Rattle.history_model.specs.Places.{has_name}
use Rattle.history_model.specs.Edits.{entered_in}

-- the inode that the slots name so
abbrev pub named : List Slot → List ℕ → Option ℕ
named slots name = option_map (λ s. s.ino) (find (has_name name) slots)

abbrev slots_in_all : List (List Slot) → List Slot
slots_in_all chunks = flat_map (λ chunk. chunk) chunks

pub skip : (t : Slot) (slots : List Slot) (m : List ℕ) → has_name m t ≡ false → named (t ∷ slots) m ≡ named slots m
skip t slots m fails = ap (λ (b : Bool). option_map (λ (s : Slot). s.ino) (cond b (Some t) (find (has_name m) slots))) fails

pub takes : (t : Slot) (slots : List Slot) (m : List ℕ) → has_name m t ≡ true → named (t ∷ slots) m ≡ Some t.ino
takes t slots m holds = ap (λ (b : Bool). option_map (λ (s : Slot). s.ino) (cond b (Some t) (find (has_name m) slots))) holds

-- two rows whose first slots have one name and inode
same_head : (s t : Slot) (xs ys : List Slot) (m : List ℕ) → has_name m s ≡ has_name m t → s.ino ≡ t.ino → named xs m ≡ named ys m → named (s ∷ xs) m ≡ named (t ∷ ys) m
same_head s t xs ys m name ino rest =
    elim (cases_Bool (has_name m t)) [
      | inl holds ↦ takes s xs m (name ∙ holds) ∙ ap (λ (i : ℕ). Some i) ino ∙ sym (takes t ys m holds)
      | inr fails ↦ skip s xs m (name ∙ fails) ∙ rest ∙ sym (skip t ys m fails)
    ]

pub none_in : (t : Slot) (slots : List Slot) (m : List ℕ) → named (t ∷ slots) m ≡ None → (has_name m t ≡ false) × (named slots m ≡ None)
none_in t slots m none =
    elim (cases_Bool (has_name m t)) [
      | inl holds ↦ absurd (let e : Some t.ino ≡ None = sym (takes t slots m holds) ∙ none in cc)
      | inr fails ↦ (fails, sym (skip t slots m fails) ∙ none)
    ]

pub named_append : (xs ys : List Slot) (m : List ℕ) → named (xs ++ ys) m ≡ option_or (named xs m) (named ys m)
named_append [] ys m = refl
named_append (x ∷ xs) ys m =
    elim (cases_Bool (has_name m x)) [
      | inl holds ↦ takes x (xs ++ ys) m holds ∙ sym (ap (λ (o : Option ℕ). option_or o (named ys m)) (takes x xs m holds))
      | inr fails ↦ skip x (xs ++ ys) m fails ∙ named_append xs ys m ∙ sym (ap (λ (o : Option ℕ). option_or o (named ys m)) (skip x xs m fails))
    ]

-- a slot in use has its name, and no other
has_own : (s : Slot) → s.ino ≢ 0 → has_name s.name s ≡ true
has_own s used = ap (λ (b : Bool). not b && bytes_eq s.name s.name) (ne_eqb s.ino 0 used) ∙ (bytes_eq-Decides s.name s.name).1 refl

pub has_no_other : (s : Slot) (m : List ℕ) → m ≢ s.name → has_name m s ≡ false
has_no_other s m other =
    elim (cases_Bool (bytes_eq s.name m)) [
      | inl same ↦ absurd (other (sym ((bytes_eq-Decides s.name m).0 same)))
      | inr differ ↦ ap (λ (b : Bool). not (s.ino == 0) && b) differ ∙ elim (not (s.ino == 0)) as (λ b. (b && false) ≡ false) [ true ↦ refl | false ↦ refl ]
    ]

unused : (s : Slot) (m : List ℕ) → (s.ino == 0) ≡ true → has_name m s ≡ false
unused s m free = ap (λ (b : Bool). not b && bytes_eq s.name m) free

abbrev entered_by : Bool → Slot → List ℕ → ℕ → List Slot
entered_by b s name i = cond b (record s { ino = i; name = name } ∷ []) (record s { len = kept_length s } ∷ (record { ino = i; len = s.len - kept_length s; name = name } ∷ []))

module _ (name : List ℕ) (i : ℕ) (used : i ≢ 0) where
  -- the slots that take the name name the inode so
  entered_named : (s : Slot) (slots : List Slot) → has_name name s ≡ false → named (entered s name i ++ slots) name ≡ Some i
  entered_named s slots fails =
      let over : Slot = record s { ino = i; name = name } in
      let cut : Slot = record s { len = kept_length s } in
      let after : Slot = record { ino = i; len = s.len - kept_length s; name = name } in
      let at = λ (b : Bool). named (entered_by b s name i ++ slots) name in
      elim (cases_Bool (s.ino == 0)) [
        | inl free ↦ ap at free ∙ takes over slots name (has_own over used)
        | inr taken ↦ ap at taken ∙ skip cut (after ∷ slots) name fails ∙ takes after slots name (has_own after used)
      ]

  entered_others : (s : Slot) (slots : List Slot) (m : List ℕ) → m ≢ name → named (entered s name i ++ slots) m ≡ named (s ∷ slots) m
  entered_others s slots m other =
      let over : Slot = record s { ino = i; name = name } in
      let cut : Slot = record s { len = kept_length s } in
      let after : Slot = record { ino = i; len = s.len - kept_length s; name = name } in
      let at = λ (b : Bool). named (entered_by b s name i ++ slots) m in
      elim (cases_Bool (s.ino == 0)) [
        | inl free ↦ ap at free ∙ skip over slots m (has_no_other over m other) ∙ sym (skip s slots m (unused s m free))
        | inr taken ↦ ap at taken ∙ same_head cut s (after ∷ slots) slots m refl refl (skip after slots m (has_no_other after m other))
      ]

  at_named : (slots : List Slot) (place : ℕ) → place < length slots → named slots name ≡ None → named (with_name_at slots place name i) name ≡ Some i
  at_named [] place below none = absurd (omega arith)
  at_named (s ∷ slots) zero below none = entered_named s slots (none_in s slots name none).0
  at_named (s ∷ slots) (suc place) below none =
      let parts = none_in s slots name none in
      skip s (with_name_at slots place name i) name parts.0 ∙ at_named slots place (omega arith) parts.1

  at_others : (slots : List Slot) (place : ℕ) (m : List ℕ) → m ≢ name → named (with_name_at slots place name i) m ≡ named slots m
  at_others [] place m other = refl
  at_others (s ∷ slots) zero m other = entered_others s slots m other
  at_others (s ∷ slots) (suc place) m other = same_head s s (with_name_at slots place name i) slots m refl refl (at_others slots place m other)

  -- in one chunk, by where it has room
  abbrev chunk_by : Option ℕ → List Slot → List Slot
  chunk_by room chunk = option_map_or (λ place. with_name_at chunk place name i) room chunk

  abbrev chunks_by : Option ℕ → List Slot → List (List Slot) → List (List Slot)
  chunks_by room chunk chunks = elim (is_some room) [ true ↦ chunk_by room chunk ∷ chunks | false ↦ chunk ∷ entered_in chunks name i ]

  one_named : named (slots_in_all (one_slot name i ∷ [])) name ≡ Some i
  one_named = let s : Slot = record { ino = i; len = 512; name = name } in takes s [] name (has_own s used)

  one_others : (m : List ℕ) → m ≢ name → named (slots_in_all (one_slot name i ∷ [])) m ≡ None
  one_others m other = let s : Slot = record { ino = i; len = 512; name = name } in skip s [] m (has_no_other s m other)

  none_in_first : (xs ys : List Slot) → named (xs ++ ys) name ≡ None → (named xs name ≡ None) × (named ys name ≡ None)
  none_in_first [] ys none = (refl, none)
  none_in_first (x ∷ xs) ys none =
      let parts = none_in x (xs ++ ys) name none in
      let more = none_in_first xs ys parts.1 in
      (skip x xs name parts.0 ∙ more.0, more.1)

  by_named : (chunk : List Slot) (chunks : List (List Slot)) (room : Option ℕ) → room_in chunk name ≡ room → named chunk name ≡ None
      → named (slots_in_all (entered_in chunks name i)) name ≡ Some i → named (slots_in_all (chunks_by room chunk chunks)) name ≡ Some i
  by_named chunk chunks None is none more = named_append chunk (slots_in_all (entered_in chunks name i)) name ∙ ap (λ (o : Option ℕ). option_or o (named (slots_in_all (entered_in chunks name i)) name)) none ∙ more
  by_named chunk chunks (Some place) is none more =
      let empty : Slot = record { ino = 0; len = 0; name = [] } in
      let at = position-Some (λ s. nat_le (least_length (length name)) (s.len - kept_length s)) chunk place empty is in
      named_append (with_name_at chunk place name i) (slots_in_all chunks) name
      ∙ ap (λ (o : Option ℕ). option_or o (named (slots_in_all chunks) name)) (at_named chunk place at.0 none)

  pub in_named : (chunks : List (List Slot)) → named (slots_in_all chunks) name ≡ None → named (slots_in_all (entered_in chunks name i)) name ≡ Some i
  in_named [] none = one_named
  in_named (chunk ∷ chunks) none =
      let parts = none_in_first chunk (slots_in_all chunks) none in
      by_named chunk chunks (room_in chunk name) refl parts.0 (in_named chunks parts.1)

  by_others : (chunk : List Slot) (chunks : List (List Slot)) (room : Option ℕ) (m : List ℕ) → m ≢ name
      → named (slots_in_all (entered_in chunks name i)) m ≡ named (slots_in_all chunks) m → named (slots_in_all (chunks_by room chunk chunks)) m ≡ named (chunk ++ slots_in_all chunks) m
  by_others chunk chunks None m other more =
      named_append chunk (slots_in_all (entered_in chunks name i)) m ∙ ap (λ (o : Option ℕ). option_or (named chunk m) o) more ∙ sym (named_append chunk (slots_in_all chunks) m)
  by_others chunk chunks (Some place) m other more =
      named_append (with_name_at chunk place name i) (slots_in_all chunks) m
      ∙ ap (λ (o : Option ℕ). option_or o (named (slots_in_all chunks) m)) (at_others chunk place m other) ∙ sym (named_append chunk (slots_in_all chunks) m)

  pub in_others : (chunks : List (List Slot)) (m : List ℕ) → m ≢ name → named (slots_in_all (entered_in chunks name i)) m ≡ named (slots_in_all chunks) m
  in_others [] m other = one_others m other
  in_others (chunk ∷ chunks) m other = by_others chunk chunks (room_in chunk name) m other (in_others chunks m other)
