-- Slots read off the front of bytes, one after another.
use Rattle.std.proofs.Common.{◌≡◌, ℕ, zero, suc, ◌+◌, ◌-◌, ◌*◌, ◌%◌, ◌<◌, ◌≤◌, List, [], ◌∷◌, ◌++◌, length, take, drop, Bool, true, false, if◌then◌else◌, ◌==◌, ◌||◌, Option, Some, None, option_map, inl, inr, refl, ap, sym, subst, ◌∙◌, arith, length-drop, append_assoc}
use Rattle.std.proofs.lemmas.Bool.{and_parts, eqb-true, eq-eqb, ne_eqb, leb-true, cases_Bool}
use Rattle.std.proofs.lemmas.List.{append-nil, drop-drop, drop_all, get_or-drop, length-take-le, length_push}
use Rattle.lufs_base.specs.Fields.{AreBytes, u16_at, u32_at}
use Rattle.lufs_base.specs.Name.{is_name, IsName}
use Rattle.lufs_base.proofs.Spelling.{number_in-lt}
use Rattle.volume_model.specs.declared.directory.Slot.{Slot}
use Rattle.volume_model.specs.Format.{IsSlot, IsChunk, least_length, is_named, is_slot, slot_at, slots_in, chunk_of}
use Rattle.dir_blocks.proofs.RightSlots.{AreRight, none_right, with_first, is_chunk}

bytes_behind : (k : ℕ) (bytes : List ℕ) → AreBytes bytes → AreBytes (drop k bytes)
bytes_behind k bytes are i = rw (get_or-drop k bytes i 0) (are (k + i))

-- what the test of a slot says
pub record IsFront (bytes : List ℕ) : Type 0 where
  pub low : 12 ≤ u16_at bytes 4
  pub inside : u16_at bytes 4 ≤ length bytes
  pub step : u16_at bytes 4 % 4 ≡ 0
  pub named : (u32_at bytes 0 == 0 || is_named bytes) ≡ true

pub front_tests : (bytes : List ℕ) → is_slot bytes ≡ true → IsFront bytes
front_tests bytes test =
    let three = and_parts _ _ test in
    let two = and_parts _ _ three.0 in
    let one = and_parts _ _ two.0 in
    record { low = leb-true _ _ one.0; inside = leb-true _ _ one.1; step = eqb-true _ _ two.1; named = three.1 }

-- what it says of the name of a slot in use
record HasName (bytes : List ℕ) : Type 0 where
  room : least_length (u16_at bytes 6) ≤ u16_at bytes 4
  allowed : is_name (take (u16_at bytes 6) (drop 8 bytes)) ≡ true
  name : (slot_at bytes).name ≡ take (u16_at bytes 6) (drop 8 bytes)

name_tests : (bytes : List ℕ) → IsFront bytes → (u32_at bytes 0 ≡ 0 → ⊥) → HasName bytes
name_tests bytes front used =
    let off = ne_eqb (u32_at bytes 0) 0 used in
    let named : is_named bytes ≡ true = ap (λ (b : Bool). b || is_named bytes) (sym off) ∙ front.named in
    let two = and_parts _ _ named in
    let one = and_parts _ _ two.0 in
    let name = take (u16_at bytes 6) (drop 8 bytes) in
    record { room = leb-true _ _ one.0; allowed = one.1; name = ap (λ (b : Bool). if b then [] else name) off }

-- the slot at the front may be written
front_right : (bytes : List ℕ) → AreBytes bytes → is_slot bytes ≡ true → IsSlot (slot_at bytes)
front_right bytes are test =
    let front = front_tests bytes test in
    let name = take (u16_at bytes 6) (drop 8 bytes) in
    record {
      ino = number_in-lt 4 bytes are;
      low = front.low;
      step = front.step;
      unused = λ none. ap (λ (b : Bool). if b then [] else name) (eq-eqb (u32_at bytes 0) 0 none);
      named = λ used. let has = name_tests bytes front used in subst IsName (sym has.name) has.allowed;
      room = λ used.
          let has = name_tests bytes front used in
          let size : length (slot_at bytes).name ≡ u16_at bytes 6 =
          ap length has.name ∙ length-take-le (u16_at bytes 6) (drop 8 bytes) (omega (arith, has.room, front.inside, length-drop 8 bytes)) in
          subst (λ (n : ℕ). least_length n ≤ u16_at bytes 4) (sym size) has.room;
    }

-- the slots that fill bytes, by the test of the first
by_test : (n : ℕ) (bytes : List ℕ) → 0 < length bytes
    → slots_in (suc n) bytes ≡ (if is_slot bytes then option_map (λ slots. slot_at bytes ∷ slots) (slots_in n (drop (u16_at bytes 4) bytes)) else None)
unfolding slots_in
by_test n [] some = absurd (omega arith)
by_test n (b ∷ bytes) some = refl

pub at_front : (n : ℕ) (bytes : List ℕ) → 0 < length bytes → is_slot bytes ≡ true
    → slots_in (suc n) bytes ≡ option_map (λ slots. slot_at bytes ∷ slots) (slots_in n (drop (u16_at bytes 4) bytes))
at_front n bytes some test =
    by_test n bytes some ∙ ap (λ (b : Bool). if b then option_map (λ slots. slot_at bytes ∷ slots) (slots_in n (drop (u16_at bytes 4) bytes)) else None) test

no_front : (n : ℕ) (bytes : List ℕ) → 0 < length bytes → is_slot bytes ≡ false → slots_in (suc n) bytes ≡ None
no_front n bytes some test =
    by_test n bytes some ∙ ap (λ (b : Bool). if b then option_map (λ slots. slot_at bytes ∷ slots) (slots_in n (drop (u16_at bytes 4) bytes)) else None) test

pub at_end : (n : ℕ) → slots_in n [] ≡ Some []
unfolding slots_in
at_end zero = refl
at_end (suc n) = refl

out_of_count : (b : ℕ) (bytes : List ℕ) → slots_in zero (b ∷ bytes) ≡ None
unfolding slots_in
out_of_count b bytes = refl

-- the slots that are read may be written
behind_front : (bytes : List ℕ) (more : Option (List Slot)) (slots : List Slot) → option_map (λ l. slot_at bytes ∷ l) more ≡ Some slots → IsSlot (slot_at bytes)
    → u16_at bytes 4 ≤ length bytes → ((l : List Slot) → more ≡ Some l → AreRight l (length bytes - u16_at bytes 4)) → AreRight slots (length bytes)
behind_front bytes None slots is front inside rest = absurd (cc)
behind_front bytes (Some l) slots is front inside rest =
    let same : slot_at bytes ∷ l ≡ slots = cc in
    let size : u16_at bytes 4 + (length bytes - u16_at bytes 4) ≡ length bytes = omega arith in
    subst (λ (s : List Slot). AreRight s (length bytes)) same
    (subst (AreRight (slot_at bytes ∷ l)) size (with_first (slot_at bytes) l (length bytes - u16_at bytes 4) front (rest l refl)))

read_right : (n : ℕ) (bytes : List ℕ) (slots : List Slot) → AreBytes bytes → slots_in n bytes ≡ Some slots → AreRight slots (length bytes)
read_right n [] slots are is =
    let same : [] ≡ slots = cc (at_end n) in
    subst (λ (s : List Slot). AreRight s 0) same none_right
read_right zero (b ∷ bytes) slots are is = absurd (cc (out_of_count b bytes))
read_right (suc n) (b ∷ bytes) slots are is =
    elim (cases_Bool (is_slot (b ∷ bytes))) [
      | inl test ↦
          let front = front_tests (b ∷ bytes) test in
          let rest = drop (u16_at (b ∷ bytes) 4) (b ∷ bytes) in
          behind_front (b ∷ bytes) (slots_in n rest) slots (sym (at_front n (b ∷ bytes) (omega arith) test) ∙ is) (front_right (b ∷ bytes) are test) front.inside
          (λ l more. subst (AreRight l) (length-drop (u16_at (b ∷ bytes) 4) (b ∷ bytes)) (read_right n rest l (bytes_behind (u16_at (b ∷ bytes) 4) (b ∷ bytes) are) more))
      | inr test ↦ absurd (cc (no_front n (b ∷ bytes) (omega arith) test))
    ]

-- 512 bytes are a chunk where slots fill them
pub chunk_by_size : (bytes : List ℕ) → length bytes ≡ 512 → chunk_of bytes ≡ slots_in 512 bytes
chunk_by_size bytes size = ap (λ (b : Bool). if b then slots_in 512 bytes else None) (eq-eqb (length bytes) 512 size)

pub chunk_writable_of : (bytes : List ℕ) (slots : List Slot) → AreBytes bytes → chunk_of bytes ≡ Some slots → IsChunk slots
chunk_writable_of bytes slots are is =
    elim (cases_Bool (length bytes == 512)) [
      | inl test ↦
          let size = eqb-true (length bytes) 512 test in
          is_chunk slots (subst (AreRight slots) size (read_right 512 bytes slots are (sym (chunk_by_size bytes size) ∙ is)))
      | inr test ↦
          let none : chunk_of bytes ≡ None = ap (λ (b : Bool). if b then slots_in 512 bytes else None) test in
          absurd (cc)
    ]

-- slots before those that are still to be read
pub before_pushed : (slots : List Slot) (s : Slot) (more : Option (List Slot)) → option_map (λ l. (slots ++ s ∷ []) ++ l) more ≡ option_map (λ l. slots ++ l) (option_map (λ l. s ∷ l) more)
before_pushed slots s None = refl
before_pushed slots s (Some l) = ap Some (append_assoc slots (s ∷ []) l)

-- one slot more is read
pub read_more : (bytes : List ℕ) (slots more : List Slot) (at : ℕ) (s : Slot) → length bytes ≡ 512 → 12 * length slots ≤ at → at < length bytes
    → is_slot (drop at bytes) ≡ true → s ≡ slot_at (drop at bytes) → more ≡ slots ++ s ∷ []
    → option_map (λ l. more ++ l) (slots_in (512 - length more) (drop (at + s.len) bytes)) ≡ option_map (λ l. slots ++ l) (slots_in (512 - length slots) (drop at bytes))
read_more bytes slots more at s size few below test is pushed =
    let rest = drop at bytes in
    let some : 0 < length rest = omega (arith, length-drop at bytes) in
    let count : length more ≡ length slots + 1 = ap length pushed ∙ length_push slots s in
    let n = 512 - length more in
    let one : 512 - length slots ≡ suc n = omega arith in
    let behind : drop (at + s.len) bytes ≡ drop (u16_at rest 4) rest =
    sym (drop-drop s.len at bytes) ∙ ap (λ (t : Slot). drop t.len rest) is in
    ap (λ (l : List ℕ). option_map (λ k. more ++ k) (slots_in n l)) behind
    ∙ ap (λ (l : List Slot). option_map (λ k. l ++ k) (slots_in n (drop (u16_at rest 4) rest))) pushed
    ∙ before_pushed slots s (slots_in n (drop (u16_at rest 4) rest))
    ∙ ap (λ (t : Slot). option_map (λ l. slots ++ l) (option_map (λ l. t ∷ l) (slots_in n (drop (u16_at rest 4) rest)))) is
    ∙ ap (λ (o : Option (List Slot)). option_map (λ l. slots ++ l) o) (sym (at_front n rest some test))
    ∙ ap (λ (m : ℕ). option_map (λ l. slots ++ l) (slots_in m rest)) (sym one)

-- what stands there is no slot
pub read_none : (bytes : List ℕ) (slots : List Slot) (at : ℕ) → length bytes ≡ 512 → 12 * length slots ≤ at → at < length bytes → is_slot (drop at bytes) ≡ false
    → option_map (λ l. slots ++ l) (slots_in (512 - length slots) (drop at bytes)) ≡ slots_in 512 bytes → chunk_of bytes ≡ None
read_none bytes slots at size few below test so_far =
    let rest = drop at bytes in
    let some : 0 < length rest = omega (arith, length-drop at bytes) in
    let one : 512 - length slots ≡ suc (512 - length slots - 1) = omega arith in
    chunk_by_size bytes size ∙ sym so_far
    ∙ ap (λ (o : Option (List Slot)). option_map (λ l. slots ++ l) o) (ap (λ (m : ℕ). slots_in m rest) one ∙ no_front (512 - length slots - 1) rest some test)

-- all bytes are read
pub read_all : (bytes : List ℕ) (slots : List Slot) (at : ℕ) → length bytes ≡ 512 → length bytes ≤ at
    → option_map (λ l. slots ++ l) (slots_in (512 - length slots) (drop at bytes)) ≡ slots_in 512 bytes → chunk_of bytes ≡ Some slots
read_all bytes slots at size end so_far =
    chunk_by_size bytes size ∙ sym so_far
    ∙ ap (λ (l : List ℕ). option_map (λ k. slots ++ k) (slots_in (512 - length slots) l)) (drop_all at bytes end)
    ∙ ap (λ (o : Option (List Slot)). option_map (λ k. slots ++ k) o) (at_end (512 - length slots)) ∙ ap Some (append-nil slots)
