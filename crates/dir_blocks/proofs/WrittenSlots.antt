-- Slots written one after another, and read again.
use Rattle.std.proofs.Common.{◌≡◌, ℕ, zero, suc, ◌+◌, ◌-◌, ◌*◌, ◌<◌, ◌≤◌, List, [], ◌∷◌, ◌++◌, length, take, drop, get_or, replicate, sum_by, All, refl, ap, sym, subst, ◌∙◌, arith, length-append, take_all, append_assoc, slice_index, ◌==◌, ◌||◌, ◌%◌, ◌^◌, Bool, true, if◌then◌else◌, Option, Some, option_map, inl, inr}
use Rattle.std.proofs.lemmas.List.{append-nil, take_more, length-replicate, drop-drop, get_or-drop}
use Rattle.std.proofs.lemmas.Bool.{cases_Bool, eqb-true, eqb-false, eq-eqb, le-leb, and_from}
use Rattle.std.proofs.lemmas.List.Sums.{sum_by-cons, sum_by_more, sum_by_more_le}
use Rattle.std.proofs.lemmas.List.Elements.{All-take}
use Rattle.std.proofs.lemmas.Grind.{flat_map-append}
use Rattle.std.proofs.Math.Seq.{take-append_seam, drop-append_seam}
use Rattle.lufs_base.specs.Fields.{put_at, field_bytes, u16_at, u32_at}
use Rattle.lufs_base.proofs.Spelling.{read_back_of}
use Rattle.lufs_base.proofs.Written.{put_at_behind, put_at_all}
use Rattle.lufs_base.specs.Name.{is_name}
use Rattle.volume_model.specs.declared.directory.Slot.{Slot}
use Rattle.volume_model.specs.Format.{IsSlot, IsChunk, least_length, is_named, is_slot, slot_at, slots_in, slot_bytes, chunk_bytes, chunk_of}
use Rattle.dir_blocks.proofs.ReadSlots.{at_front, at_end, chunk_by_size}

-- a slot that may be written has room for its name
pub name_fits : (s : Slot) → IsSlot s → 8 + length s.name ≤ s.len
name_fits s is =
    elim (cases_Bool (s.ino == 0)) [
      | inl test ↦ omega (arith, ap length (is.unused (eqb-true s.ino 0 test)), is.low)
      | inr test ↦ omega (arith, is.room (eqb-false s.ino 0 test))
    ]

pub length-slot : (s : Slot) → IsSlot s → length (slot_bytes s) ≡ s.len
length-slot s is =
    let zeros : List ℕ = replicate (s.len - 8 - length s.name) 0 in
    omega (arith, name_fits s is, length-append s.name zeros, length-replicate {A = ℕ} (s.len - 8 - length s.name) 0)

pub length-slots : (slots : List Slot) → All IsSlot slots → length (chunk_bytes slots) ≡ sum_by (λ s. s.len) slots
length-slots [] right = refl
length-slots (s ∷ slots) right =
    length-append (slot_bytes s) (chunk_bytes slots) ∙ ap (λ (n : ℕ). n + length (chunk_bytes slots)) (length-slot s (right 0 s (omega arith)))
    ∙ ap (λ (n : ℕ). s.len + n) (length-slots slots (λ k d below. right (suc k) d (omega arith))) ∙ sym (sum_by-cons (λ t. t.len) s slots)

-- a slot is written field by field
written_slot : (s : Slot) (old a b c d : List ℕ) (at : ℕ) → at ≤ length old
    → a ≡ put_at old at (field_bytes 4 s.ino) → b ≡ put_at a (at + 4) (field_bytes 2 s.len) → c ≡ put_at b (at + 6) (field_bytes 2 (length s.name))
    → d ≡ put_at c (at + 8) s.name → put_at d (at + 8 + length s.name) (replicate (s.len - 8 - length s.name) 0) ≡ put_at old at (slot_bytes s)
written_slot s old a b c d at inside first second third fourth =
    let ino = field_bytes 4 s.ino in
    let len = field_bytes 2 s.len in
    let size = field_bytes 2 (length s.name) in
    let zeros : List ℕ = replicate (s.len - 8 - length s.name) 0 in
    let two : b ≡ put_at old at (ino ++ len) = second ∙ ap (λ (l : List ℕ). put_at l (at + 4) len) first ∙ put_at_behind ino len old at (at + 4) inside refl in
    let three : c ≡ put_at old at ((ino ++ len) ++ size) = third ∙ ap (λ (l : List ℕ). put_at l (at + 6) size) two ∙ put_at_behind (ino ++ len) size old at (at + 6) inside refl in
    let four : d ≡ put_at old at (((ino ++ len) ++ size) ++ s.name) =
    fourth ∙ ap (λ (l : List ℕ). put_at l (at + 8) s.name) three ∙ put_at_behind ((ino ++ len) ++ size) s.name old at (at + 8) inside refl in
    ap (λ (l : List ℕ). put_at l (at + 8 + length s.name) zeros) four
    ∙ put_at_behind (((ino ++ len) ++ size) ++ s.name) zeros old at (at + 8 + length s.name) inside (omega arith)

-- the same, by what the calls leave
pub written_fields : (s : Slot) (name old a b c d out : List ℕ) (len at : ℕ) → at ≤ length old → name ≡ s.name → len ≡ s.len
    → a ≡ put_at old at (field_bytes 4 s.ino) → b ≡ put_at a (at + 4) (field_bytes 2 s.len) → c ≡ put_at b (at + 6) (field_bytes 2 (length name))
    → d ≡ put_at c (at + 8) name → out ≡ put_at d (at + 8 + length name) (replicate (len - 8 - length name) 0) → out ≡ put_at old at (slot_bytes s)
written_fields s name old a b c d out len at inside name_is len_is first second third fourth last =
    last ∙ ap (λ (n : ℕ). put_at d (at + 8 + length name) (replicate (n - 8 - length name) 0)) len_is
    ∙ ap (λ (l : List ℕ). put_at d (at + 8 + length l) (replicate (s.len - 8 - length l) 0)) name_is
    ∙ written_slot s old a b c d at inside first second (third ∙ ap (λ (l : List ℕ). put_at b (at + 6) (field_bytes 2 (length l))) name_is)
    (fourth ∙ ap (λ (l : List ℕ). put_at c (at + 8) l) name_is)

pub next_place : (slots : List Slot) (i at : ℕ) (s : Slot) → i < length slots → at ≡ sum_by (λ t. t.len) (take i slots) → s ≡ get_or slots i s
    → at + s.len ≡ sum_by (λ t. t.len) (take (i + 1) slots)
next_place slots i at s below is read =
    omega (arith, sum_by_more (λ (t : Slot). t.len) slots i s below, ap (λ (t : Slot). t.len) read)

-- one slot more is written
pub written_next : (slots : List Slot) (old out : List ℕ) (i at : ℕ) (s : Slot) → All IsSlot slots → i < length slots → at ≡ sum_by (λ t. t.len) (take i slots)
    → s ≡ get_or slots i s → out ≡ put_at old 0 (chunk_bytes (take i slots)) → put_at out at (slot_bytes s) ≡ put_at old 0 (chunk_bytes (take (i + 1) slots))
written_next slots old out i at s right below is read so_far =
    let front = chunk_bytes (take i slots) in
    let bytes : front ++ slot_bytes s ≡ chunk_bytes (take (i + 1) slots) =
    sym (ap chunk_bytes (take_more slots i s below) ∙ flat_map-append slot_bytes (take i slots) (get_or slots i s ∷ [])
    ∙ ap (λ (l : List ℕ). front ++ l) (append-nil (slot_bytes (get_or slots i s))) ∙ ap (λ (t : Slot). front ++ slot_bytes t) (sym read)) in
    let place : at ≡ 0 + length front = omega (arith, is, length-slots (take i slots) (All-take IsSlot i slots right)) in
    ap (λ (l : List ℕ). put_at l at (slot_bytes s)) so_far ∙ put_at_behind front (slot_bytes s) old 0 at (omega arith) place ∙ ap (put_at old 0) bytes

-- all slots are written
pub written_all : (slots : List Slot) (old out : List ℕ) (i : ℕ) → IsChunk slots → length old ≡ 512 → length slots ≤ i → out ≡ put_at old 0 (chunk_bytes (take i slots))
    → out ≡ chunk_bytes slots
written_all slots old out i is room end so_far =
    so_far ∙ ap (λ (l : List Slot). put_at old 0 (chunk_bytes l)) (take_all i slots end)
    ∙ put_at_all old (chunk_bytes slots) (omega (arith, length-slots slots is.right, is.full))

-- the numbers of a slot that was written
record ReadsNumbers (s : Slot) (bytes : List ℕ) : Type 0 where
  ino : u32_at bytes 0 ≡ s.ino
  len : u16_at bytes 4 ≡ s.len
  size : u16_at bytes 6 ≡ length s.name

numbers_read : (s : Slot) (rest : List ℕ) → IsSlot s → s.len < 2 ^ 16 → ReadsNumbers s (slot_bytes s ++ rest)
numbers_read s rest is small =
    let bytes = slot_bytes s ++ rest in
    record {
      ino = read_back_of 4 s.ino (drop 4 bytes) is.ino;
      len = read_back_of 2 s.len (drop 6 bytes) small;
      size = read_back_of 2 (length s.name) (drop 8 bytes) (omega (arith, name_fits s is));
    }

first_zero : (n : ℕ) (rest : List ℕ) → 0 < n → get_or (replicate n 0 ++ rest) 0 0 ≡ 0
first_zero zero rest some = absurd (omega arith)
first_zero (suc n) rest some = refl

-- a zero byte stands after the name of a slot in use
zero_behind : (s : Slot) (rest : List ℕ) → 9 + length s.name ≤ s.len → slice_index (slot_bytes s ++ rest) (8 + length s.name) ≡ 0
zero_behind s rest room =
    let bytes = slot_bytes s ++ rest in
    let count = s.len - 8 - length s.name in
    let zeros : List ℕ = replicate count 0 in
    let named : drop 8 bytes ≡ s.name ++ (zeros ++ rest) = append_assoc s.name zeros rest in
    let at : 8 + length s.name + 0 ≡ 8 + length s.name = omega arith in
    let behind : drop (8 + length s.name) bytes ≡ zeros ++ rest =
    sym (drop-drop (length s.name) 8 bytes) ∙ ap (drop (length s.name)) named ∙ drop-append_seam s.name (zeros ++ rest) in
    ap (λ (k : ℕ). get_or bytes k 0) (sym at) ∙ sym (get_or-drop (8 + length s.name) bytes 0 0) ∙ ap (λ (l : List ℕ). get_or l 0 0) behind
    ∙ first_zero count rest (omega arith)

name_read : (s : Slot) (rest : List ℕ) → IsSlot s → s.len < 2 ^ 16 → take (u16_at (slot_bytes s ++ rest) 6) (drop 8 (slot_bytes s ++ rest)) ≡ s.name
name_read s rest is small =
    let bytes = slot_bytes s ++ rest in
    let zeros : List ℕ = replicate (s.len - 8 - length s.name) 0 in
    let named : drop 8 bytes ≡ s.name ++ (zeros ++ rest) = append_assoc s.name zeros rest in
    let numbers = numbers_read s rest is small in
    ap (λ (n : ℕ). take n (drop 8 bytes)) numbers.size ∙ ap (take (length s.name)) named ∙ take-append_seam s.name (zeros ++ rest)

-- the test of the name of a slot in use
named_test : (s : Slot) (rest : List ℕ) → IsSlot s → s.len < 2 ^ 16 → (s.ino ≡ 0 → ⊥) → is_named (slot_bytes s ++ rest) ≡ true
named_test s rest is small used =
    let bytes = slot_bytes s ++ rest in
    let numbers = numbers_read s rest is small in
    let fits : least_length (u16_at bytes 6) ≤ u16_at bytes 4 =
    subst (λ (n : ℕ). least_length n ≤ u16_at bytes 4) (sym numbers.size) (subst (λ (n : ℕ). least_length (length s.name) ≤ n) (sym numbers.len) (is.room used)) in
    let allowed : is_name (take (u16_at bytes 6) (drop 8 bytes)) ≡ true = ap is_name (name_read s rest is small) ∙ is.named used in
    let zero_is : slice_index bytes (8 + u16_at bytes 6) ≡ 0 =
    ap (λ (n : ℕ). slice_index bytes (8 + n)) numbers.size ∙ zero_behind s rest (omega (arith, is.room used)) in
    and_from _ _ (and_from _ _ (le-leb _ _ fits) allowed) (eq-eqb _ _ zero_is)

-- a slot that was written reads as the slot
slot_test : (s : Slot) (rest : List ℕ) → IsSlot s → s.len < 2 ^ 16 → is_slot (slot_bytes s ++ rest) ≡ true
slot_test s rest is small =
    let bytes = slot_bytes s ++ rest in
    let numbers = numbers_read s rest is small in
    let low : 12 ≤ u16_at bytes 4 = subst (λ (n : ℕ). 12 ≤ n) (sym numbers.len) is.low in
    let inside : u16_at bytes 4 ≤ length bytes =
    subst (λ (n : ℕ). n ≤ length bytes) (sym numbers.len) (omega (arith, length-slot s is, length-append (slot_bytes s) rest)) in
    let step : u16_at bytes 4 % 4 ≡ 0 = ap (λ (n : ℕ). n % 4) numbers.len ∙ is.step in
    let named : (u32_at bytes 0 == 0 || is_named bytes) ≡ true =
    elim (cases_Bool (s.ino == 0)) [
      | inl test ↦ ap (λ (n : ℕ). n == 0 || is_named bytes) numbers.ino ∙ ap (λ (b : Bool). b || is_named bytes) test
      | inr test ↦ ap (λ (n : ℕ). n == 0 || is_named bytes) numbers.ino ∙ ap (λ (b : Bool). b || is_named bytes) test ∙ named_test s rest is small (eqb-false s.ino 0 test)
    ] in
    and_from _ _ (and_from _ _ (and_from _ _ (le-leb _ _ low) (le-leb _ _ inside)) (eq-eqb _ _ step)) named

slot_read : (s : Slot) (rest : List ℕ) → IsSlot s → s.len < 2 ^ 16 → slot_at (slot_bytes s ++ rest) ≡ s
slot_read s rest is small =
    let bytes = slot_bytes s ++ rest in
    let numbers = numbers_read s rest is small in
    let whole : List ℕ = take (u16_at bytes 6) (drop 8 bytes) in
    let by_number : (if u32_at bytes 0 == 0 then [] else whole) ≡ (if s.ino == 0 then [] else whole) =
    ap (λ (n : ℕ). if n == 0 then [] else whole) numbers.ino in
    let name : (if u32_at bytes 0 == 0 then [] else whole) ≡ s.name =
    elim (cases_Bool (s.ino == 0)) [
      | inl test ↦ by_number ∙ ap (λ (b : Bool). if b then [] else whole) test ∙ sym (is.unused (eqb-true s.ino 0 test))
      | inr test ↦ by_number ∙ ap (λ (b : Bool). if b then [] else whole) test ∙ name_read s rest is small
    ] in
    λ i. record { ino = numbers.ino i; len = numbers.len i; name = name i }

-- the slots that were written are read
slots_read : (n : ℕ) (slots : List Slot) → All IsSlot slots → All (λ s. s.len < 2 ^ 16) slots → length slots ≤ n → slots_in n (chunk_bytes slots) ≡ Some slots
slots_read n [] right small few = at_end n
slots_read zero (s ∷ slots) right small few = absurd (omega arith)
slots_read (suc n) (s ∷ slots) right small few =
    let is = right 0 s (omega arith) in
    let rest = chunk_bytes slots in
    let bytes = slot_bytes s ++ rest in
    let size = small 0 s (omega arith) in
    let numbers = numbers_read s rest is size in
    let some : 0 < length bytes = omega (arith, length-slot s is, length-append (slot_bytes s) rest, is.low) in
    let behind : drop (u16_at bytes 4) bytes ≡ rest =
    ap (λ (k : ℕ). drop k bytes) (numbers.len ∙ sym (length-slot s is)) ∙ drop-append_seam (slot_bytes s) rest in
    let more = slots_read n slots (λ k d below. right (suc k) d (omega arith)) (λ k d below. small (suc k) d (omega arith)) (omega arith) in
    at_front n bytes some (slot_test s rest is size)
    ∙ ap (λ (l : List ℕ). option_map (λ k. slot_at bytes ∷ k) (slots_in n l)) behind ∙ ap (λ (o : Option (List Slot)). option_map (λ k. slot_at bytes ∷ k) o) more
    ∙ ap (λ (t : Slot). Some (t ∷ slots)) (slot_read s rest is size)

-- no slot has more bytes than all, and each has twelve
each_fits : (slots : List Slot) → All (λ s. s.len ≤ sum_by (λ t. t.len) slots) slots
each_fits slots k d below = omega (arith, sum_by_more_le (λ (s : Slot). s.len) slots k d below)

few_slots : (slots : List Slot) → All IsSlot slots → 12 * length slots ≤ sum_by (λ s. s.len) slots
few_slots [] right = omega arith
few_slots (s ∷ slots) right =
    let first = right 0 s (omega arith) in
    omega (arith, few_slots slots (λ k d below. right (suc k) d (omega arith)), first.low, sum_by-cons (λ (t : Slot). t.len) s slots)

pub chunk_read_back_of : (slots : List Slot) → IsChunk slots → chunk_of (chunk_bytes slots) ≡ Some slots
chunk_read_back_of slots is =
    chunk_by_size (chunk_bytes slots) (length-slots slots is.right ∙ is.full)
    ∙ slots_read 512 slots is.right (λ k d below. omega (arith, each_fits slots k d below, is.full)) (omega (arith, few_slots slots is.right, is.full))
