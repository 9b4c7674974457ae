-- The names of a tree that content stands for have at most 255 bytes, and a reply tells few of them.
use Rattle.std.proofs.Common.{◌≡◌, ℕ, zero, suc, ◌+◌, Bool, true, false, not, ◌&&◌, ◌||◌, List, [], ◌∷◌, ◌++◌, length, take, drop, map, Option, Some, None, option_map, refl, ◌/◌}
use Rattle.std.specs.Prelude.{◌==◌, nat_le, if◌then◌else◌, slice_get, option_and_then, unwrap_or}
use Rattle.std.specs.List.{AllByRecursion, filter, flat_map, list_all, range_with_len}
use Rattle.std.specs.Option.{option_map_or}
use Rattle.std.proofs.lemmas.Bool.{and_parts, and_from}
use Rattle.lufs_base.specs.Fields.{u16_at, u32_at}
use Rattle.lufs_base.specs.Name.{is_name, is_name_byte}
use Rattle.lufs_base.specs.declared.geometry.Geometry.{Geometry}
use Rattle.volume_model.specs.declared.inode.Dinode.{Dinode}
use Rattle.volume_model.specs.declared.directory.Slot.{Slot}
use Rattle.volume_model.specs.Format.{Blocks, is_file, is_directory, inodes_of, is_named, is_slot, slot_at, slots_in, chunk_of}
use Rattle.volume_model.specs.Sound.{reading_of, state_of, state_at, inode_at, chunk_at, chunks_at, numbers_of, used_inode, used_of, File, Directory, Link, attributes_of, file_blocks, pointer_names, link_text, node_of, tree_of}
use Rattle.history_model.specs.Places.{slots_in_node, directory_slots, is_dots}
use Rattle.history_model.specs.Names.{is_before, put_in_order, in_order, names_after}

abbrev pub is_short_name : List ℕ → Bool
is_short_name name = nat_le (length name) 255

abbrev pub AreShort : List (List ℕ) → Type 0
AreShort names = AllByRecursion (λ name. is_short_name name ≡ true) names

abbrev HaveShort : List Slot → Type 0
HaveShort slots = AllByRecursion (λ s. is_short_name s.name ≡ true) slots

-- a name that is allowed is short
name_short : (name : List ℕ) → is_name name ≡ true → is_short_name name ≡ true
name_short name allowed = (and_parts (nat_le 1 (length name)) (nat_le (length name) 255) (and_parts (nat_le 1 (length name) && nat_le (length name) 255) (list_all is_name_byte name) allowed).0).1

read_short : (unused : Bool) (name : List ℕ) (others ends : Bool) → (unused || (others && is_name name && ends)) ≡ true → is_short_name (if unused then [] else name) ≡ true
read_short true name others ends named = refl
read_short false name others ends named = name_short name (and_parts others (is_name name) (and_parts (others && is_name name) ends named).0).1

slot_short : (bytes : List ℕ) → is_slot bytes ≡ true → is_short_name (slot_at bytes).name ≡ true
slot_short bytes is =
    read_short (u32_at bytes 0 == 0) (take (u16_at bytes 6) (drop 8 bytes)) _ _ (and_parts _ (u32_at bytes 0 == 0 || is_named bytes) is).1

abbrev ReadShort : Option (List Slot) → Type 0
ReadShort None = Unit {0}
ReadShort (Some slots) = HaveShort slots

more_short : (s : Slot) (rest : Option (List Slot)) → is_short_name s.name ≡ true → ReadShort rest → ReadShort (option_map (λ slots. s ∷ slots) rest)
more_short s None first all = tt
more_short s (Some slots) first all = (first, all)

-- the slots that fill bytes
slots_short : (more : ℕ) (bytes : List ℕ) → ReadShort (slots_in more bytes)
unfolding slots_in
slots_short more [] = tt
slots_short zero (b ∷ bytes) = tt
slots_short (suc more) (b ∷ bytes) = by_test (slots_short more (drop (u16_at (b ∷ bytes) 4) (b ∷ bytes))) (is_slot (b ∷ bytes)) refl
  where
    by_test : ReadShort (slots_in more (drop (u16_at (b ∷ bytes) 4) (b ∷ bytes))) → (t : Bool) → is_slot (b ∷ bytes) ≡ t
        → ReadShort (if t then option_map (λ slots. slot_at (b ∷ bytes) ∷ slots) (slots_in more (drop (u16_at (b ∷ bytes) 4) (b ∷ bytes))) else None)
    by_test rest false is = tt
    by_test rest true is = more_short (slot_at (b ∷ bytes)) _ (slot_short (b ∷ bytes) is) rest

chunk_short : (bytes : List ℕ) → ReadShort (chunk_of bytes)
chunk_short bytes = by_size (length bytes == 512)
  where
    by_size : (t : Bool) → ReadShort (if t then slots_in 512 bytes else None)
    by_size true = slots_short 512 bytes
    by_size false = tt

joined_short : (slots others : List Slot) → HaveShort slots → HaveShort others → HaveShort (slots ++ others)
joined_short [] others first then_all = then_all
joined_short (s ∷ slots) others first then_all = (first.0, joined_short slots others first.1 then_all)

known_short : (chunk : Option (List Slot)) → ReadShort chunk → HaveShort (unwrap_or chunk [])
known_short None short = tt
known_short (Some slots) short = short

-- the slots of all chunks that are read so
all_short : (chunk : ℕ → Option (List Slot)) → ((k : ℕ) → ReadShort (chunk k)) → (ks : List ℕ) → HaveShort (flat_map (λ c. c) (map (λ c. unwrap_or c []) (map chunk ks)))
all_short chunk each [] = tt
all_short chunk each (k ∷ ks) = joined_short (unwrap_or (chunk k) []) (flat_map (λ c. c) (map (λ c. unwrap_or c []) (map chunk ks))) (known_short (chunk k) (each k)) (all_short chunk each ks)

record_short : (blocks : Blocks) (d : Dinode) (t : Bool) → HaveShort (flat_map (λ c. c) (map (λ c. unwrap_or c []) (if t then map (chunk_at blocks (numbers_of blocks d)) (range_with_len 0 (d.size / 512)) else [])))
record_short blocks d true = all_short (chunk_at blocks (numbers_of blocks d)) (λ k. chunk_short _) (range_with_len 0 (d.size / 512))
record_short blocks d false = tt

node_short : (blocks : Blocks) (d : Dinode) (file directory : Bool) → HaveShort (slots_in_node (
    if file
    then File (record { attributes = attributes_of d; size = d.size; blocks = file_blocks blocks (used_inode blocks d); pointers = pointer_names (used_inode blocks d) })
    else (if directory
    then Directory (record { attributes = attributes_of d; chunks = map (λ chunk. unwrap_or chunk []) (chunks_at blocks d) })
    else Link (record { attributes = attributes_of d; text = link_text blocks (used_inode blocks d) }))))
node_short blocks d true directory = tt
node_short blocks d false true = record_short blocks d (is_directory d.mode)
node_short blocks d false false = tt

state_short : (blocks : Blocks) (o : Option (Option Dinode)) → HaveShort (option_map_or slots_in_node (option_map (node_of blocks) (used_of (state_of blocks o))) [])
state_short blocks None = tt
state_short blocks (Some None) = tt
state_short blocks (Some (Some d)) = node_short blocks d (is_file d.mode) (is_directory d.mode)

-- what stands in the place of an inode of the volume, or nothing past its end
place_short : (g : Geometry) (blocks : Blocks) (i n : ℕ) (a : ℕ) → HaveShort (option_map_or slots_in_node (option_map (node_of blocks) (option_and_then used_of (slice_get (map (state_at g blocks) (range_with_len a n)) i))) [])
place_short g blocks i zero a = tt
place_short g blocks zero (suc n) a = state_short blocks (inode_at g blocks a)
place_short g blocks (suc i) (suc n) a = place_short g blocks i n (a + 1)

slots_of_tree : (g : Geometry) (blocks : Blocks) (i : ℕ) → HaveShort (directory_slots (tree_of g blocks) i)
unfolding tree_of reading_of
slots_of_tree g blocks i = place_short g blocks i (inodes_of g) 0

-- of these slots the names that a listing has, in order
kept_short : (p : Slot → Bool) (slots : List Slot) → HaveShort slots → HaveShort (filter p slots)
kept_short p [] short = tt
kept_short p (s ∷ slots) short = by_test (kept_short p slots short.1) (p s)
  where
    by_test : HaveShort (filter p slots) → (t : Bool) → HaveShort (if t then s ∷ filter p slots else filter p slots)
    by_test rest true = (short.0, rest)
    by_test rest false = rest

names_short : (slots : List Slot) → HaveShort slots → AreShort (map (λ s. s.name) slots)
names_short [] short = tt
names_short (s ∷ slots) short = (short.0, names_short slots short.1)

after_short : (p : List ℕ → Bool) (names : List (List ℕ)) → AreShort names → AreShort (filter p names)
after_short p [] short = tt
after_short p (name ∷ names) short = by_test (after_short p names short.1) (p name)
  where
    by_test : AreShort (filter p names) → (t : Bool) → AreShort (if t then name ∷ filter p names else filter p names)
    by_test rest true = (short.0, rest)
    by_test rest false = rest

put_short : (name : List ℕ) (names : List (List ℕ)) → is_short_name name ≡ true → AreShort names → AreShort (put_in_order name names)
put_short name [] first short = (first, tt)
put_short name (other ∷ names) first short = by_test (put_short name names first short.1) (is_before name other)
  where
    by_test : AreShort (put_in_order name names) → (t : Bool) → AreShort (let put : List (List ℕ) = elim t [ true ↦ name ∷ (other ∷ names) | false ↦ other ∷ put_in_order name names ] in put)
    by_test rest true = (first, short)
    by_test rest false = (short.0, rest)

order_short : (names : List (List ℕ)) → AreShort names → AreShort (in_order names)
order_short [] short = tt
order_short (name ∷ names) short = put_short name (in_order names) short.0 (order_short names short.1)

pub listed_short : (g : Geometry) (blocks : Blocks) (i : ℕ) (after : Option (List ℕ)) → AreShort (names_after (tree_of g blocks) i after)
listed_short g blocks i after =
    let entries = kept_short (λ s. not (s.ino == 0) && not (is_dots s.name)) (directory_slots (tree_of g blocks) i) (slots_of_tree g blocks i) in
    order_short _ (after_short (λ name. option_map_or (λ a. is_before a name) after true) _ (names_short _ entries))

front_short : (n : ℕ) (names : List (List ℕ)) → AreShort names → list_all is_short_name (take n names) ≡ true
front_short zero names short = refl
front_short (suc n) [] short = refl
front_short (suc n) (name ∷ names) short = and_from (is_short_name name) (list_all is_short_name (take n names)) short.0 (front_short n names short.1)

pub front_is_short : (n : ℕ) (names : List (List ℕ)) → AreShort names → list_all is_short_name (take n names) ≡ true
front_is_short = front_short
