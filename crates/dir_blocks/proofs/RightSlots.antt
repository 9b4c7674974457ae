-- What may be written may still be written after a change.
use Rattle.std.proofs.Common.{◌≡◌, ℕ, zero, suc, ◌+◌, ◌-◌, ◌%◌, ◌<◌, ◌≤◌, ◌^◌, List, [], ◌∷◌, ◌++◌, length, get_or, sum_by, All, Bool, if◌then◌else◌, refl, ap, sym, subst, ◌∙◌, arith, ◌==◌, inl, inr, lit<, Result, Ok, Err, OnOk, OnErr, Some, nat_le}
use Rattle.std.proofs.lemmas.Bool.{eq-eqb, ne_eqb, eqb-true, eqb-false, cases_Bool, leb-true}
use Rattle.std.proofs.lemmas.List.Quantifiers.{position-Some}
use Rattle.std.proofs.lemmas.List.Elements.{All-cons}
use Rattle.std.proofs.lemmas.List.Sums.{sum_by-cons}
use Rattle.lufs_base.specs.Name.{IsName}
use Rattle.volume_model.specs.declared.directory.Slot.{Slot}
use Rattle.volume_model.specs.Format.{IsSlot, IsChunk, least_length, kept_length, entered, with_name_at, with_ino, joined, without_slot, room_in, IsUsed}

abbrev lengths : List Slot → ℕ
lengths slots = sum_by (λ s. s.len) slots

-- these slots may be written, and have so many bytes
pub record AreRight (slots : List Slot) (bytes : ℕ) : Type 0 where
  pub right : All IsSlot slots
  pub full : lengths slots ≡ bytes

pub none_right : AreRight [] 0
none_right = record { right = λ k d below. absurd (omega arith); full = refl }

-- a slot before others
pub with_first : (s : Slot) (slots : List Slot) (bytes : ℕ) → IsSlot s → AreRight slots bytes → AreRight (s ∷ slots) (s.len + bytes)
with_first s slots bytes is are = record {
  right = All-cons IsSlot s slots is are.right;
  full = sum_by-cons (λ t. t.len) s slots ∙ ap (λ (n : ℕ). s.len + n) are.full;
}

first_right : (s : Slot) (slots : List Slot) (bytes : ℕ) → AreRight (s ∷ slots) bytes → IsSlot s
first_right s slots bytes are = are.right 0 s (omega arith)

behind_right : (s : Slot) (slots : List Slot) (bytes : ℕ) → AreRight (s ∷ slots) bytes → AreRight slots (bytes - s.len)
behind_right s slots bytes are = record {
  right = λ k d below. are.right (suc k) d (omega arith);
  full = omega (arith, are.full, sum_by-cons (λ t. t.len) s slots);
}

first_fits : (s : Slot) (slots : List Slot) (bytes : ℕ) → AreRight (s ∷ slots) bytes → s.len + (bytes - s.len) ≡ bytes
first_fits s slots bytes are = omega (arith, are.full, sum_by-cons (λ t. t.len) s slots)

least_low : (n : ℕ) → 12 ≤ least_length n
least_low n = omega arith

least_step : (n : ℕ) → least_length n % 4 ≡ 0
least_step n = omega arith

rest_step : (a b : ℕ) → a % 4 ≡ 0 → b % 4 ≡ 0 → (a - b) % 4 ≡ 0
rest_step a b by four = omega arith

sum_step : (a b : ℕ) → a % 4 ≡ 0 → b % 4 ≡ 0 → (a + b) % 4 ≡ 0
sum_step a b by four = omega arith

-- what a slot keeps
free_kept : (s : Slot) → s.ino ≡ 0 → kept_length s ≡ 0
free_kept s free = ap (λ (b : Bool). if b then 0 else least_length (length s.name)) (eq-eqb s.ino 0 free)

used_kept : (s : Slot) → (s.ino ≡ 0 → ⊥) → kept_length s ≡ least_length (length s.name)
used_kept s used = ap (λ (b : Bool). if b then 0 else least_length (length s.name)) (ne_eqb s.ino 0 used)

-- an unused slot is taken over
taken_right : (s : Slot) (i : ℕ) (name : List ℕ) → IsSlot s → s.ino ≡ 0 → IsName name → (i ≡ 0 → ⊥) → i < 2 ^ 32 → least_length (length name) ≤ s.len - kept_length s
    → IsSlot (record { ino = i; len = s.len; name = name })
taken_right s i name is free allowed number small room = record {
  ino = small;
  low = is.low;
  step = is.step;
  unused = λ none. absurd (number none);
  named = λ _. allowed;
  room = λ _. omega (arith, subst (λ (n : ℕ). least_length (length name) ≤ s.len - n) (free_kept s free) room);
}

taken_entered : (s : Slot) (i : ℕ) (name : List ℕ) → s.ino ≡ 0 → record { ino = i; len = s.len; name = name } ∷ [] ≡ entered s name i
taken_entered s i name free =
    sym (ap (λ (b : Bool). if b then record s { ino = i; name = name } ∷ [] else (record s { len = kept_length s } ∷ (record { ino = i; len = s.len - kept_length s; name = name } ∷ []))) (eq-eqb s.ino 0 free))

-- a slot in use is cut, and the rest of it is a new slot
cut_right : (s : Slot) (kept : ℕ) → IsSlot s → kept ≡ least_length (length s.name) → IsSlot (record { ino = s.ino; len = kept; name = s.name })
cut_right s kept is same = record {
  ino = is.ino;
  low = omega (arith, least_low (length s.name));
  step = ap (λ (n : ℕ). n % 4) same ∙ least_step (length s.name);
  unused = is.unused;
  named = is.named;
  room = λ _. omega arith;
}

split_right : (s : Slot) (kept i : ℕ) (name : List ℕ) → IsSlot s → kept % 4 ≡ 0 → IsName name → (i ≡ 0 → ⊥) → i < 2 ^ 32 → least_length (length name) ≤ s.len - kept
    → IsSlot (record { ino = i; len = s.len - kept; name = name })
split_right s kept i name is step allowed number small room = record {
  ino = small;
  low = omega (arith, least_low (length name));
  step = rest_step s.len kept is.step step;
  unused = λ none. absurd (number none);
  named = λ _. allowed;
  room = λ _. room;
}

used_entered : (s : Slot) (i : ℕ) (name : List ℕ) → (s.ino ≡ 0 → ⊥)
    → record { ino = s.ino; len = kept_length s; name = s.name } ∷ (record { ino = i; len = s.len - kept_length s; name = name } ∷ []) ≡ entered s name i
used_entered s i name used =
    sym (ap (λ (b : Bool). if b then record s { ino = i; name = name } ∷ [] else (record s { len = kept_length s } ∷ (record { ino = i; len = s.len - kept_length s; name = name } ∷ []))) (ne_eqb s.ino 0 used))

-- two slots in the place of the first
two_right : (s t u : Slot) (slots : List Slot) (bytes : ℕ) → AreRight (s ∷ slots) bytes → IsSlot t → IsSlot u → t.len + u.len ≡ s.len → AreRight (t ∷ (u ∷ slots)) bytes
two_right s t u slots bytes are is next size =
    let more = with_first t (u ∷ slots) (u.len + (bytes - s.len)) is (with_first u slots (bytes - s.len) next (behind_right s slots bytes are)) in
    subst (AreRight (t ∷ (u ∷ slots))) (omega (arith, first_fits s slots bytes are)) more

back : (a b : ℕ) → a ≤ b → a + (b - a) ≡ b
back a b fits = omega arith

free_right : (s : Slot) (slots : List Slot) (i bytes : ℕ) (name : List ℕ) → AreRight (s ∷ slots) bytes → s.ino ≡ 0 → IsName name → (i ≡ 0 → ⊥) → i < 2 ^ 32
    → least_length (length name) ≤ s.len - kept_length s → AreRight (entered s name i ++ slots) bytes
free_right s slots i bytes name are free allowed number small room =
    subst (λ (l : List Slot). AreRight (l ++ slots) bytes) (taken_entered s i name free)
    (subst (AreRight (record { ino = i; len = s.len; name = name } ∷ slots)) (first_fits s slots bytes are)
    (with_first (record { ino = i; len = s.len; name = name }) slots (bytes - s.len)
    (taken_right s i name (first_right s slots bytes are) free allowed number small room) (behind_right s slots bytes are)))

used_right : (s : Slot) (slots : List Slot) (i bytes : ℕ) (name : List ℕ) → AreRight (s ∷ slots) bytes → (s.ino ≡ 0 → ⊥) → IsName name → (i ≡ 0 → ⊥) → i < 2 ^ 32
    → least_length (length name) ≤ s.len - kept_length s → AreRight (entered s name i ++ slots) bytes
used_right s slots i bytes name are used allowed number small room =
    let is = first_right s slots bytes are in
    let kept = used_kept s used in
    let step : kept_length s % 4 ≡ 0 = ap (λ (n : ℕ). n % 4) kept ∙ least_step (length s.name) in
    let inside : kept_length s ≤ s.len = subst (λ (n : ℕ). n ≤ s.len) (sym kept) (is.room used) in
    let size : kept_length s + (s.len - kept_length s) ≡ s.len = back (kept_length s) s.len inside in
    subst (λ (l : List Slot). AreRight (l ++ slots) bytes) (used_entered s i name used)
    (two_right s (record { ino = s.ino; len = kept_length s; name = s.name }) (record { ino = i; len = s.len - kept_length s; name = name }) slots bytes are
    (cut_right s (kept_length s) is kept) (split_right s (kept_length s) i name is step allowed number small room) size)

-- a slot that takes a name
entered_right : (s : Slot) (slots : List Slot) (i bytes : ℕ) (name : List ℕ) → AreRight (s ∷ slots) bytes → IsName name → (i ≡ 0 → ⊥) → i < 2 ^ 32
    → least_length (length name) ≤ s.len - kept_length s → AreRight (entered s name i ++ slots) bytes
entered_right s slots i bytes name are allowed number small room =
    elim (cases_Bool (s.ino == 0)) [
      | inl test ↦ free_right s slots i bytes name are (eqb-true s.ino 0 test) allowed number small room
      | inr test ↦ used_right s slots i bytes name are (eqb-false s.ino 0 test) allowed number small room
    ]

-- the slot at this place takes a name
pub with_name_right : (slots : List Slot) (place i bytes : ℕ) (name : List ℕ) (d : Slot) → AreRight slots bytes → place < length slots → IsName name → (i ≡ 0 → ⊥) → i < 2 ^ 32
    → least_length (length name) ≤ (get_or slots place d).len - kept_length (get_or slots place d) → AreRight (with_name_at slots place name i) bytes
with_name_right [] place i bytes name d are below allowed number small room = absurd (omega arith)
with_name_right (s ∷ slots) zero i bytes name d are below allowed number small room = entered_right s slots i bytes name are allowed number small room
with_name_right (s ∷ slots) (suc place) i bytes name d are below allowed number small room =
    subst (AreRight (s ∷ with_name_at slots place name i)) (first_fits s slots bytes are)
    (with_first s (with_name_at slots place name i) (bytes - s.len) (first_right s slots bytes are)
    (with_name_right slots place i (bytes - s.len) name d (behind_right s slots bytes are) (omega arith) allowed number small room))

-- the slot at this place names another inode
pub with_ino_right : (slots : List Slot) (place i bytes : ℕ) → AreRight slots bytes → IsUsed slots place → (i ≡ 0 → ⊥) → i < 2 ^ 32 → AreRight (with_ino slots place i) bytes
with_ino_right [] place i bytes are used number small = absurd used
with_ino_right (s ∷ slots) zero i bytes are used number small =
    let is = first_right s slots bytes are in
    subst (AreRight (record { ino = i; len = s.len; name = s.name } ∷ slots)) (first_fits s slots bytes are)
    (with_first (record { ino = i; len = s.len; name = s.name }) slots (bytes - s.len) record {
      ino = small;
      low = is.low;
      step = is.step;
      unused = λ none. absurd (number none);
      named = λ _. is.named used;
      room = λ _. is.room used;
    } (behind_right s slots bytes are))
with_ino_right (s ∷ slots) (suc place) i bytes are used number small =
    subst (AreRight (s ∷ with_ino slots place i)) (first_fits s slots bytes are)
    (with_first s (with_ino slots place i) (bytes - s.len) (first_right s slots bytes are)
    (with_ino_right slots place i (bytes - s.len) (behind_right s slots bytes are) used number small))

-- a slot with the bytes of the one after it
wider_right : (s t : Slot) → IsSlot s → IsSlot t → IsSlot (record { ino = s.ino; len = s.len + t.len; name = s.name })
wider_right s t is next = record {
  ino = is.ino;
  low = omega (arith, is.low);
  step = sum_step s.len t.len is.step next.step;
  unused = is.unused;
  named = is.named;
  room = λ used. omega (arith, is.room used);
}

joined_right : (s : Slot) (slots : List Slot) (place bytes : ℕ) → AreRight (s ∷ slots) bytes → AreRight (joined s slots place) bytes
joined_right s [] place bytes are = are
joined_right s (t ∷ slots) zero bytes are =
    let rest = behind_right s (t ∷ slots) bytes are in
    let more = behind_right t slots (bytes - s.len) rest in
    let wide = with_first (record { ino = s.ino; len = s.len + t.len; name = s.name }) slots (bytes - s.len - t.len)
    (wider_right s t (first_right s (t ∷ slots) bytes are) (first_right t slots (bytes - s.len) rest)) more in
    subst (AreRight (record { ino = s.ino; len = s.len + t.len; name = s.name } ∷ slots))
    (omega (arith, first_fits s (t ∷ slots) bytes are, first_fits t slots (bytes - s.len) rest)) wide
joined_right s (t ∷ slots) (suc place) bytes are =
    subst (AreRight (s ∷ joined t slots place)) (first_fits s (t ∷ slots) bytes are)
    (with_first s (joined t slots place) (bytes - s.len) (first_right s (t ∷ slots) bytes are)
    (joined_right t slots place (bytes - s.len) (behind_right s (t ∷ slots) bytes are)))

-- the slot at this place is removed
pub without_right : (slots : List Slot) (place bytes : ℕ) → AreRight slots bytes → AreRight (without_slot slots place) bytes
without_right [] place bytes are = are
without_right (s ∷ slots) zero bytes are =
    let is = first_right s slots bytes are in
    subst (AreRight (record { ino = 0; len = s.len; name = [] } ∷ slots)) (first_fits s slots bytes are)
    (with_first (record { ino = 0; len = s.len; name = [] }) slots (bytes - s.len) record {
      ino = lit< tt;
      low = is.low;
      step = is.step;
      unused = λ _. refl;
      named = λ used. absurd (used refl);
      room = λ used. absurd (used refl);
    } (behind_right s slots bytes are))
without_right (s ∷ slots) (suc place) bytes are = joined_right s slots place bytes are

pub are_right : (slots : List Slot) → IsChunk slots → AreRight slots 512
are_right slots is = record { right = is.right; full = is.full }

pub is_chunk : (slots : List Slot) → AreRight slots 512 → IsChunk slots
is_chunk slots are = record { right = are.right; full = are.full }

-- the first slot with room takes a name, or lack of memory leaves the slots as they were
pub entered_chunk : {T E : Type 0} (result : Result T E) (slots after : List Slot) (place i : ℕ) (name : List ℕ) → IsChunk slots
    → OnOk result (after ≡ with_name_at slots place name i) → OnErr result (after ≡ slots)
    → room_in slots name ≡ Some place → IsName name → (i ≡ 0 → ⊥) → i < 2 ^ 32 → IsChunk after
entered_chunk (Ok done) slots after place i name is ok err room allowed number small =
    let none : Slot = record { ino = 0; len = 0; name = [] } in
    let at = position-Some (λ s. nat_le (least_length (length name)) (s.len - kept_length s)) slots place none room in
    subst IsChunk (sym ok) (is_chunk (with_name_at slots place name i)
    (with_name_right slots place i 512 name none (are_right slots is) at.0 allowed number small (leb-true _ _ at.1)))
entered_chunk (Err e) slots after place i name is ok err room allowed number small = subst IsChunk (sym err) is
