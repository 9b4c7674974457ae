-- What was seen of the inodes, with one more.
use Rattle.std.proofs.Common.{◌≡◌, ◌<◌, ℕ, ◌+◌, ◌/◌, suc, Bool, true, false, not, ◌&&◌, ◌||◌, if◌then◌else◌, List, [], ◌∷◌, map, Option, Some, None, refl, sym, ap, ◌∙◌, arith}
use Rattle.std.specs.List.{find, flat_map, list_all, list_any, range_with_len}
use Rattle.std.specs.Option.{option_map, option_map_or, option_or, is_some, unwrap_or}
use Rattle.std.proofs.lemmas.Bool.{or_from, and_left}
use Rattle.volume_model.specs.declared.directory.Slot.{Slot}
use Rattle.volume_model.specs.declared.inode.Dinode.{Dinode}
use Rattle.volume_model.specs.Format.{Blocks, is_directory}
use Rattle.volume_model.specs.Sound.{Reading, UsedInode, used_at, used_inode, numbers_of, chunks_at, chunk_at, slots_of, names_in_reading, is_used_in, is_directory_in, slots_at, names_at, begins_right, has_twice, has_bad_slots, has_bad_bytes, has_bad_chunk, names_unused}
use Rattle.fsck_core.specs.declared.inodes.Brief.{Brief}
use Rattle.fsck_core.specs.declared.survey.Survey.{Survey}
use Rattle.fsck_core.specs.Slots.{used_slots, is_used_among, unused_named}
use Rattle.fsck_core.specs.NameTables.{HasNames}
use Rattle.fsck_core.specs.Survey.{HasSeenNames, AreSlotsOf}
use Rattle.fsck_core.proofs.EnteredNames.{names_stay}
use Rattle.fsck_core.proofs.Findings.{find_more}

-- what is found up to the next number
next : (p : ℕ → Bool) (i : ℕ) → find p (range_with_len 0 (i + 1)) ≡ option_or (find p (range_with_len 0 i)) (if p i then Some i else None)
next p i = let one : i + 1 ≡ suc i = omega arith in ap (λ (k : ℕ). find p (range_with_len 0 k)) one ∙ find_more p i

or_none : {X : Type 0} (o : Option X) → option_or o None ≡ o
or_none None = refl
or_none (Some x) = refl

-- which is no other where the number fails, or where one was found before
not_next : (p : ℕ → Bool) (i : ℕ) (o : Option ℕ) → o ≡ find p (range_with_len 0 i) → p i ≡ false → o ≡ find p (range_with_len 0 (i + 1))
not_next p i o is fails =
    is
    ∙ sym (next p i ∙ ap (λ (b : Bool). option_or (find p (range_with_len 0 i)) (if b then Some i else None)) fails ∙ or_none (find p (range_with_len 0 i)))

found_before : (p : ℕ → Bool) (i k : ℕ) (o : Option ℕ) → o ≡ find p (range_with_len 0 i) → o ≡ Some k → o ≡ find p (range_with_len 0 (i + 1))
found_before p i k o is found =
    found ∙ sym (next p i ∙ ap (λ (q : Option ℕ). option_or q (if p i then Some i else None)) (sym is ∙ found))

found_next : (p : ℕ → Bool) (i : ℕ) (o : Option ℕ) → o ≡ find p (range_with_len 0 i) → o ≡ None → p i ≡ true → Some i ≡ find p (range_with_len 0 (i + 1))
found_next p i o is none passes =
    sym (next p i
    ∙ ap (λ (q : Option ℕ). option_or q (if p i then Some i else None)) (sym is ∙ none)
    ∙ ap (λ (b : Bool). if b then Some i else None) passes)

-- Inode i has no names: it is no directory.
record HasNoNames (r : Reading) (i : ℕ) : Type 0 where
  bytes : has_bad_bytes r i ≡ false
  directory : is_directory_in (names_in_reading r) i ≡ false
  slots : slots_at (names_in_reading r) i ≡ []

no_names_unused : (r : Reading) (i : ℕ) → used_at r i ≡ None → HasNoNames r i
no_names_unused r i none = record {
  bytes = ap (λ (o : Option UsedInode). option_map_or (λ u. not (list_all is_some u.chunks)) o false) none;
  directory = ap (λ (o : Option UsedInode). option_map_or is_some (option_map slots_of o) false) none;
  slots = ap (λ (o : Option UsedInode). option_map_or (λ slots. unwrap_or slots []) (option_map slots_of o) []) none;
}

no_names_other : (blocks : Blocks) (r : Reading) (i : ℕ) (d : Dinode) → used_at r i ≡ Some (used_inode blocks d) → is_directory d.mode ≡ false → HasNoNames r i
no_names_other blocks r i d used other =
    let chunks : chunks_at blocks d ≡ [] =
    ap (λ (b : Bool). if b then map (chunk_at blocks (numbers_of blocks d)) (range_with_len 0 (d.size / 512)) else []) other in
    let none : slots_of (used_inode blocks d) ≡ None =
    ap (λ (b : Bool). if b then Some (flat_map (λ chunk. unwrap_or chunk []) (chunks_at blocks d)) else None) other in
    record {
      bytes =
          ap (λ (o : Option UsedInode). option_map_or (λ u. not (list_all is_some u.chunks)) o false) used
          ∙ ap (λ (l : List (Option (List Slot))). not (list_all is_some l)) chunks;
      directory =
          ap (λ (o : Option UsedInode). option_map_or is_some (option_map slots_of o) false) used
          ∙ ap (λ (o : Option (List Slot)). is_some o) none;
      slots =
          ap (λ (o : Option UsedInode). option_map_or (λ slots. unwrap_or slots []) (option_map slots_of o) []) used
          ∙ ap (λ (o : Option (List Slot)). unwrap_or o []) none;
    }

names_pass : (n i : ℕ) (r : Reading) (s : Survey) → HasSeenNames n i r s → HasNoNames r i → i < n → HasSeenNames n (i + 1) r s
names_pass n i r s has nothing inside =
    let m = names_in_reading r in
    let good : has_bad_chunk r i ≡ false =
    or_from (has_bad_bytes r i) (has_bad_slots m i) nothing.bytes
    (and_left (is_directory_in m i) (not (begins_right i (slots_at m i) && not (has_twice (names_at m i)))) nothing.directory) in
    let names : names_unused m i ≡ false = ap (λ (l : List Slot). list_any (λ s. not (is_used_in m s.ino)) (used_slots l)) nothing.slots in
    record {
      chunk = not_next (has_bad_chunk r) i s.bad_chunk has.chunk good;
      name = λ none. not_next (names_unused m) i s.bad_name (has.name none) names;
      tables = λ none. names_stay n i m s.names (has.tables none) nothing.slots inside;
    }

-- an inode that isn't in use, and one that is no directory
pub names_of_unused : (n i : ℕ) (r : Reading) (s : Survey) → HasSeenNames n i r s → used_at r i ≡ None → i < n → HasSeenNames n (i + 1) r s
names_of_unused n i r s has none inside = names_pass n i r s has (no_names_unused r i none) inside

pub names_of_other : (blocks : Blocks) (n i : ℕ) (r : Reading) (d : Dinode) (s : Survey) → HasSeenNames n i r s → used_at r i ≡ Some (used_inode blocks d)
    → is_directory d.mode ≡ false → i < n → HasSeenNames n (i + 1) r s
names_of_other blocks n i r d s has used other inside = names_pass n i r s has (no_names_other blocks r i d used other) inside

-- an inode that isn't looked at, since a chunk was bad
pub names_past_bad : (n i k : ℕ) (r : Reading) (s : Survey) → HasSeenNames n i r s → s.bad_chunk ≡ Some k → HasSeenNames n (i + 1) r s
names_past_bad n i k r s has bad = record {
  chunk = found_before (has_bad_chunk r) i k s.bad_chunk has.chunk bad;
  name = λ none. let both : None ≡ Some k = sym none ∙ bad in cc;
  tables = λ none. let both : None ≡ Some k = sym none ∙ bad in absurd (cc);
}

-- a directory with a bad chunk, which is the first
pub bad_chunk_seen : (n i : ℕ) (r : Reading) (s t : Survey) → HasSeenNames n i r s → s.bad_chunk ≡ None → has_bad_chunk r i ≡ true → t.bad_chunk ≡ Some i
    → HasSeenNames n (i + 1) r t
bad_chunk_seen n i r s t has none bad is = record {
  chunk = is ∙ found_next (has_bad_chunk r) i s.bad_chunk has.chunk none bad;
  name = λ never. let both : None ≡ Some i = sym never ∙ is in cc;
  tables = λ never. let both : None ≡ Some i = sym never ∙ is in absurd (cc);
}

any_alike : {X : Type 0} (p q : X → Bool) (xs : List X) → ((x : X) → p x ≡ q x) → list_any p xs ≡ list_any q xs
any_alike p q [] same = refl
any_alike p q (x ∷ xs) same = ap (λ (b : Bool). b || list_any p xs) (same x) ∙ ap (λ (b : Bool). q x || b) (any_alike p q xs same)

chunk_by_slots : (bytes directory : Bool) (i : ℕ) (slots : List Slot) → bytes ≡ false → directory ≡ true
    → (bytes || directory && not (begins_right i slots && not (has_twice (used_slots slots)))) ≡ not (begins_right i slots && not (has_twice (used_slots slots)))
chunk_by_slots true directory i slots good is = absurd (cc)
chunk_by_slots false true i slots good is = refl
chunk_by_slots false false i slots good is = absurd (cc)

-- the rule on the chunks of a directory, by its slots
bad_by_slots : (n i : ℕ) (r : Reading) (inodes : List (Option Brief)) (slots : List Slot) → AreSlotsOf n r inodes i slots
    → has_bad_chunk r i ≡ not (begins_right i slots && not (has_twice (used_slots slots)))
bad_by_slots n i r inodes slots are =
    let m = names_in_reading r in
    ap (λ (l : List Slot). has_bad_bytes r i || is_directory_in m i && not (begins_right i l && not (has_twice (used_slots l)))) are.slots_are
    ∙ chunk_by_slots (has_bad_bytes r i) (is_directory_in m i) i slots are.bytes are.directory

unused_by_slots : (n i : ℕ) (r : Reading) (inodes : List (Option Brief)) (slots : List Slot) → AreSlotsOf n r inodes i slots
    → names_unused (names_in_reading r) i ≡ unused_named inodes slots
unused_by_slots n i r inodes slots are =
    let m = names_in_reading r in
    ap (λ (l : List Slot). list_any (λ s. not (is_used_in m s.ino)) (used_slots l)) are.slots_are
    ∙ any_alike (λ s. not (is_used_in m s.ino)) (λ s. not (is_used_among inodes s.ino)) (used_slots slots) (λ s. ap not (are.used s.ino))

-- a directory whose slots aren't right
pub wrong_slots_seen : (n i : ℕ) (r : Reading) (inodes : List (Option Brief)) (slots : List Slot) (s t : Survey) → AreSlotsOf n r inodes i slots → HasSeenNames n i r s
    → s.bad_chunk ≡ None → (begins_right i slots && not (has_twice (used_slots slots))) ≡ false → t.bad_chunk ≡ Some i → HasSeenNames n (i + 1) r t
wrong_slots_seen n i r inodes slots s t are has none wrong is =
    bad_chunk_seen n i r s t has none (bad_by_slots n i r inodes slots are ∙ ap not wrong) is

-- a directory whose slots are right, and were entered
pub slots_seen : (n i : ℕ) (r : Reading) (inodes : List (Option Brief)) (slots : List Slot) (s t : Survey) → AreSlotsOf n r inodes i slots → HasSeenNames n i r s
    → s.bad_chunk ≡ None → (begins_right i slots && not (has_twice (used_slots slots))) ≡ true
    → t.bad_chunk ≡ s.bad_chunk → t.bad_name ≡ option_or s.bad_name (if unused_named inodes slots then Some i else None)
    → (HasNames n i (names_in_reading r) s.names → HasNames n (i + 1) (names_in_reading r) t.names) → HasSeenNames n (i + 1) r t
slots_seen n i r inodes slots s t are has none right chunk_is name_is entered =
    let m = names_in_reading r in
    record {
      chunk = chunk_is ∙ not_next (has_bad_chunk r) i s.bad_chunk has.chunk (bad_by_slots n i r inodes slots are ∙ ap not right);
      name = λ still.
          name_is
          ∙ ap (λ (o : Option ℕ). option_or o (if unused_named inodes slots then Some i else None)) (has.name none)
          ∙ ap (λ (b : Bool). option_or (find (names_unused m) (range_with_len 0 i)) (if b then Some i else None)) (sym (unused_by_slots n i r inodes slots are))
          ∙ sym (next (names_unused m) i);
      tables = λ still. entered (has.tables none);
    }
