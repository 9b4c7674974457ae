-- Slots where they stand in the bytes of a directory.
use Rattle.std.proofs.Common.{◌≡◌, ℕ, ◌+◌, ◌-◌, ◌*◌, ◌<◌, ◌≤◌, List, [], ◌∷◌, ◌++◌, length, get_or, take, drop, map, Bool, true, false, not, cond, ◌&&◌, ◌||◌, ◌==◌, Option, Some, None, option_map, refl, ap, sym, ◌∙◌, arith, append_assoc, append-nil, length-drop}
use Rattle.std.specs.List.{fold, list_any}
use Rattle.std.specs.Option.{is_some, unwrap_or}
use Rattle.std.proofs.lemmas.List.{get_or-map, length-map, length_push, map-append, take_more}
use Rattle.std.proofs.lemmas.List.Sums.{fold-append}
use Rattle.volume_model.specs.declared.directory.Slot.{Slot}
use Rattle.volume_model.specs.Format.{is_slot, slot_at, slots_in, chunk_of}
use Rattle.dir_blocks.proofs.ReadSlots.{front_tests, read_more, read_none, read_all}
use Rattle.fsck_core.specs.declared.entries.Entry.{Entry}
use Rattle.fsck_core.specs.declared.inodes.Brief.{Brief}
use Rattle.fsck_core.specs.Slots.{slot_of, used_slots, is_used_among, unused_named}
use Rattle.fsck_core.proofs.NamesTwice.{used_more, unused_more}

-- After the old slots come those of the bytes before this place, and those that the rest of the bytes gives make them a chunk.
pub record Reads (bytes : List ℕ) (old now : List Slot) (at : ℕ) : Type 0 where
  pub slots : List Slot
  pub inside : at ≤ length bytes
  pub few : 12 * length slots ≤ at
  pub are : now ≡ old ++ slots
  pub rest : option_map (λ more. slots ++ more) (slots_in (512 - length slots) (drop at bytes)) ≡ slots_in 512 bytes

some_again : {X : Type 0} (o : Option (List X)) → option_map (λ more. [] ++ more) o ≡ o
some_again None = refl
some_again (Some l) = refl

pub reads_begun : (bytes : List ℕ) (old : List Slot) → Reads bytes old old 0
reads_begun bytes old = record {
  slots = [];
  inside = omega arith;
  few = omega arith;
  are = sym (append-nil old);
  rest = some_again (slots_in 512 bytes);
}

-- one slot more
pub reads_more : (bytes : List ℕ) (old now : List Slot) (more : List Slot) (at next : ℕ) (s : Slot) → length bytes ≡ 512 → at < length bytes → is_slot (drop at bytes) ≡ true
    → s ≡ slot_at (drop at bytes) → next ≡ at + s.len → more ≡ now ++ s ∷ [] → Reads bytes old now at → Reads bytes old more next
reads_more bytes old now more at next s size below test is place pushed reads =
    let front = front_tests (drop at bytes) test in
    let len = ap (λ (t : Slot). t.len) is in
    let slots = reads.slots ++ s ∷ [] in
    let count : length slots ≡ length reads.slots + 1 = length_push reads.slots s in
    record {
      slots = slots;
      inside = omega (arith, front.inside, len, place, length-drop at bytes);
      few = omega (arith, reads.few, front.low, len, place, count);
      are = pushed ∙ ap (λ (l : List Slot). l ++ s ∷ []) reads.are ∙ append_assoc old reads.slots (s ∷ []);
      rest = ap (λ (n : ℕ). option_map (λ k. slots ++ k) (slots_in (512 - length slots) (drop n bytes))) place
          ∙ read_more bytes reads.slots slots at s size reads.few below test is refl ∙ reads.rest;
    }

-- what stands there is no slot
pub reads_none : (bytes : List ℕ) (old now : List Slot) (at : ℕ) → length bytes ≡ 512 → at < length bytes → is_slot (drop at bytes) ≡ false → Reads bytes old now at
    → false ≡ is_some (chunk_of bytes)
reads_none bytes old now at size below test reads =
    sym (ap (λ (o : Option (List Slot)). is_some o) (read_none bytes reads.slots at size reads.few below test reads.rest))

-- all bytes are read
pub reads_some : (bytes : List ℕ) (old now : List Slot) (at : ℕ) → length bytes ≡ 512 → length bytes ≤ at → Reads bytes old now at → true ≡ is_some (chunk_of bytes)
reads_some bytes old now at size end reads = sym (ap (λ (o : Option (List Slot)). is_some o) (read_all bytes reads.slots at size end reads.rest))

pub reads_all : (bytes : List ℕ) (old now : List Slot) (at : ℕ) → length bytes ≡ 512 → length bytes ≤ at → Reads bytes old now at → now ≡ old ++ unwrap_or (chunk_of bytes) []
reads_all bytes old now at size end reads =
    reads.are ∙ ap (λ (o : Option (List Slot)). old ++ unwrap_or o []) (sym (read_all bytes reads.slots at size end reads.rest))

pub pushed_entry : (entries more : List Entry) (e : Entry) → more ≡ entries ++ e ∷ [] → map slot_of more ≡ map slot_of entries ++ slot_of e ∷ []
pushed_entry entries more e is = ap (map slot_of) is ∙ map-append slot_of entries (e ∷ [])

-- what a list of them has past its end
abbrev pub no_entry : Entry
no_entry = record { ino = 0; len = 0; name = record { ref_ptr = (0, 0); now = [] } }

-- a slot of a list of them
pub entry_here : (entries : List Entry) (i : ℕ) (e : Entry) → i < length entries → slot_of (get_or entries i e) ≡ get_or (map slot_of entries) i (slot_of (get_or entries i e))
entry_here entries i e below = sym (get_or-map slot_of entries i e (slot_of (get_or entries i e)) below)

pub entry_inside : (entries : List Entry) (i : ℕ) → i < length entries → i < length (map slot_of entries)
entry_inside entries i below = omega (arith, below, length-map entries slot_of)

-- those in use with one more
pub used_entry : (entries : List Entry) (i : ℕ) (e : Entry) → i < length entries → ((get_or entries i e).ino == 0) ≡ false
    → used_slots (take (i + 1) (map slot_of entries)) ≡ used_slots (take i (map slot_of entries)) ++ slot_of (get_or entries i e) ∷ []
used_entry entries i e below used =
    used_more (map slot_of entries) i (slot_of (get_or entries i e)) (entry_inside entries i below) (entry_here entries i e below) used

pub unused_entry : (entries : List Entry) (i : ℕ) (e : Entry) → i < length entries → ((get_or entries i e).ino == 0) ≡ true
    → used_slots (take (i + 1) (map slot_of entries)) ≡ used_slots (take i (map slot_of entries))
unused_entry entries i e below unused =
    unused_more (map slot_of entries) i (slot_of (get_or entries i e)) (entry_inside entries i below) (entry_here entries i e below) unused

-- all of them
pub entries_end : (entries : List Entry) (i : ℕ) → length entries ≤ i → length (map slot_of entries) ≤ i
entries_end entries i end = omega (arith, end, length-map entries slot_of)

-- one more in a fold over them
pub folded_entry : {X : Type 0} (f : X → Slot → X) (x : X) (entries : List Entry) (i : ℕ) (e : Entry) → i < length entries
    → fold f x (take (i + 1) (map slot_of entries)) ≡ f (fold f x (take i (map slot_of entries))) (slot_of (get_or entries i e))
folded_entry f x entries i e below =
    let slots = map slot_of entries in
    let s = slot_of (get_or entries i e) in
    ap (fold f x) (take_more slots i s (entry_inside entries i below)) ∙ fold-append f x (take i slots) (get_or slots i s ∷ [])
    ∙ ap (f (fold f x (take i slots))) (sym (entry_here entries i e below))

-- names of unused inodes, by the slots where they stand
unused_cons : (inodes : List (Option Brief)) (e : Entry) (used tail : Bool) (slots : List Slot) → tail ≡ list_any (λ s. not (is_used_among inodes s.ino)) slots
    → (used && not (is_used_among inodes e.ino) || tail) ≡ list_any (λ s. not (is_used_among inodes s.ino)) (cond used (slot_of e ∷ slots) slots)
unused_cons inodes e true tail slots same = ap (λ (b : Bool). not (is_used_among inodes e.ino) || b) same
unused_cons inodes e false tail slots same = same

pub unused_entries : (inodes : List (Option Brief)) (entries : List Entry)
    → list_any (λ (e : Entry). not (e.ino == 0) && not (is_used_among inodes e.ino)) entries ≡ unused_named inodes (map slot_of entries)
unused_entries inodes [] = refl
unused_entries inodes (e ∷ entries) = unused_cons inodes e (not (e.ino == 0)) _ _ (unused_entries inodes entries)
