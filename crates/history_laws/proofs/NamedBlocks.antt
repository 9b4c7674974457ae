-- A file of the tree that a reading shapes has its blocks where the reading names them.
use Rattle.std.proofs.Common.{◌≡◌, ◌<◌, ◌≤◌, ◌⊎◌, inl, inr, ℕ, ◌/◌, ◌%◌, ◌==◌, nat_lt, Bool, true, false, not, ◌&&◌, if◌then◌else◌, List, [], map, take, slice_get, slice_index, Option, Some, None, unwrap_or, refl, sym, ap, ◌∙◌, subst, arith}
use Rattle.std.specs.Prelude.{option_map, option_and_then, IsSomeAnd}
use Rattle.std.specs.Option.{option_flatten}
use Rattle.std.specs.List.{range_with_len}
use Rattle.std.proofs.lemmas.List.FromFn.{get_or-map-range_with_len, length-map-range_with_len}
use Rattle.std.proofs.lemmas.Option.{slice_get-map, slice_get-get_or, slice_get_past}
use Rattle.lufs_base.specs.declared.geometry.Geometry.{Geometry}
use Rattle.volume_model.specs.Format.{Blocks, is_file, is_directory}
use Rattle.volume_model.specs.Sound.{UsedInode, Reading, reading_of, used_at, size_in_blocks, FileNode, DirectoryNode, LinkNode, Node, File, Directory, Link, Tree, shape_of, shape_of_node, shape_of_block, attributes_of, file_block, file_blocks, pointer_names, link_text, node_of, tree_of, tree_of_reading}
use Rattle.history_model.specs.FileBytes.{block_at}
use Rattle.history_laws.specs.Named.{block_at_index, named_block, Names, HasByteOf}

-- the block at this index of a node, if it is a file and has one
abbrev block_of : Option Node → ℕ → Option (List ℕ)
block_of None index = None
block_of (Some (File file)) index = block_at file index
block_of (Some (Directory directory)) index = None
block_of (Some (Link link)) index = None

-- the bytes of a block of a file
abbrev bytes_at : Blocks → ℕ → List ℕ
bytes_at blocks b = take 4096 (blocks b)

shaped_block : (o : Option (Option (List ℕ))) → option_flatten (option_map shape_of_block o) ≡ shape_of_block (option_flatten o)
shaped_block None = refl
shaped_block (Some None) = refl
shaped_block (Some (Some bytes)) = refl

shaped : (o : Option Node) (index : ℕ) → block_of (option_map shape_of_node o) index ≡ shape_of_block (block_of o index)
shaped None index = refl
shaped (Some (File file)) index = ap option_flatten (slice_get-map shape_of_block file.blocks index) ∙ shaped_block (slice_get file.blocks index)
shaped (Some (Directory directory)) index = refl
shaped (Some (Link link)) index = refl

below : {Y : Type 0} (i n : ℕ) (x : Option Y) → i < n → (if nat_lt i n then x else None) ≡ x
below i n x lt = grind arith

not_below : {Y : Type 0} (i n : ℕ) (x : Option Y) → n ≤ i → (if nat_lt i n then x else None) ≡ None
not_below i n x le = grind arith

get_range : {Y : Type 0} (f : ℕ → Y) (n i : ℕ) → slice_get (map f (range_with_len 0 n)) i ≡ (if nat_lt i n then Some (f i) else None)
get_range {Y = Y} f n i = elim (side i n) [
  | inl lt ↦ slice_get-get_or (map f (range_with_len 0 n)) i (f 0) (omega (arith, lt, length-map-range_with_len f 0 n)) ∙ ap (λ (y : Y). Some y) (get_or-map-range_with_len f 0 n i i (f 0) lt (omega arith)) ∙ sym (below i n (Some (f i)) lt)
  | inr le ↦ slice_get_past (map f (range_with_len 0 n)) i (omega (arith, le, length-map-range_with_len f 0 n)) ∙ sym (not_below i n (Some (f i)) le)
]
  where
    side : (i n : ℕ) → (i < n) ⊎ (n ≤ i)
    side i n = grind arith

nested : (c d : Bool) (o : Option ℕ) → (if c && d then o else None) ≡ (if c then (if d then o else None) else None)
nested true d o = refl
nested false d o = refl

in_node : (blocks : Blocks) (file : FileNode) (directory : DirectoryNode) (link : LinkNode) (c d : Bool) (index : ℕ) (o : Option ℕ) → block_at file index ≡ option_map (bytes_at blocks) o
    → block_of (Some (if c then File file else (if d then Directory directory else Link link))) index ≡ option_map (bytes_at blocks) (if c then o else None)
in_node blocks file directory link true d index o same = same
in_node blocks file directory link false true index o same = refl
in_node blocks file directory link false false index o same = refl

in_file : (blocks : Blocks) (number : ℕ) (t : Bool)
    → option_flatten (if t then Some (file_block blocks number) else None) ≡ option_map (bytes_at blocks) (if t && not (number == 0) then Some number else None)
in_file blocks number false = refl
in_file blocks number true = elim (number == 0) as (λ z. (if z then None else Some (bytes_at blocks number)) ≡ option_map (bytes_at blocks) (if not z then Some number else None)) [
  | true ↦ refl
  | false ↦ refl
]

block_of_used : (blocks : Blocks) (u : UsedInode) (index : ℕ) → block_of (Some (node_of blocks u)) index ≡ option_map (bytes_at blocks) (block_at_index u index)
block_of_used blocks u index =
    let d = u.inode in
    let number = slice_index u.numbers index in
    let inside = nat_lt index (size_in_blocks d.size) in
    in_node blocks (record { attributes = attributes_of d; size = d.size; blocks = file_blocks blocks u; pointers = pointer_names u })
    (record { attributes = attributes_of d; chunks = map (λ chunk. unwrap_or chunk []) u.chunks }) (record { attributes = attributes_of d; text = link_text blocks u })
    (is_file d.mode) (is_directory d.mode) index (if inside && not (number == 0) then Some number else None)
    (ap option_flatten (get_range (λ i. file_block blocks (slice_index u.numbers i)) (size_in_blocks d.size) index) ∙ in_file blocks number inside)
    ∙ ap (option_map (bytes_at blocks)) (sym (nested (is_file d.mode) (inside && not (number == 0)) (Some number)))

block_of_read : (blocks : Blocks) (index : ℕ) (o : Option UsedInode)
    → block_of (option_map (node_of blocks) o) index ≡ option_map (bytes_at blocks) (option_and_then (λ u. block_at_index u index) o)
block_of_read blocks index None = refl
block_of_read blocks index (Some u) = block_of_used blocks u index

found : (blocks : Blocks) (o : Option ℕ) (c : Option (List ℕ)) (P : List ℕ → Type 0) → shape_of_block (option_map (bytes_at blocks) o) ≡ shape_of_block c → IsSomeAnd c P → (b : ℕ) × (o ≡ Some b)
found blocks None None P same has = absurd has
found blocks None (Some c) P same has = absurd cc
found blocks (Some b) c P same has = (b, refl)

-- each byte of a file of a tree of the same shape is in a block that the reading names
pub named_by_shape : (g : Geometry) (blocks : Blocks) (tree : Tree) (ino p value : ℕ) → shape_of (tree_of g blocks) ≡ shape_of tree → HasByteOf tree ino p value
    → (b : ℕ) × Names (reading_of g blocks) ino p b
unfolding tree_of shape_of
named_by_shape g blocks tree ino p value shape has =
    let index = p / 4096 in
    let r = reading_of g blocks in
    let same : shape_of_block (block_of (tree_of_reading blocks r ino) index) ≡ shape_of_block (block_of (tree ino) index) =
    sym (shaped (tree_of_reading blocks r ino) index) ∙ ap (λ (t : Tree). block_of (t ino) index) shape ∙ shaped (tree ino) index in
    let read = ap shape_of_block (block_of_read blocks index (used_at r ino)) in
    let there = ap (λ (o : Option Node). shape_of_block (block_of o index)) has.is in
    found blocks (named_block r ino index) (block_at has.file index) _ (sym read ∙ same ∙ there) has.has.claimed

named_number : (u : UsedInode) (index b : ℕ) → block_at_index u index ≡ Some b → slice_index u.numbers index ≡ b
named_number u index b is = from (is_file u.inode.mode) (nat_lt index (size_in_blocks u.inode.size)) (slice_index u.numbers index == 0) is
  where
    from : (c d z : Bool) → (if c && (d && not z) then Some (slice_index u.numbers index) else None) ≡ Some b → slice_index u.numbers index ≡ b
    from true true false is = cc
    from true true true is = absurd cc
    from true false z is = absurd cc
    from false d z is = absurd cc

-- a block that a reading names isn't number 0
named_some : (u : UsedInode) (index b : ℕ) → block_at_index u index ≡ Some b → (slice_index u.numbers index == 0) ≡ false
named_some u index b is = from (is_file u.inode.mode) (nat_lt index (size_in_blocks u.inode.size)) (slice_index u.numbers index == 0) is
  where
    from : (c d z : Bool) → (if c && (d && not z) then Some (slice_index u.numbers index) else None) ≡ Some b → z ≡ false
    from true true false is = refl
    from true true true is = absurd cc
    from true false z is = absurd cc
    from false d z is = absurd cc

-- the inode of a name, and the number in its record, which isn't 0
pub named_in_record : (r : Reading) (ino index b : ℕ) → named_block r ino index ≡ Some b
    → (u : UsedInode) × (used_at r ino ≡ Some u) × (slice_index u.numbers index ≡ b) × ((slice_index u.numbers index == 0) ≡ false)
named_in_record r ino index b is = from (used_at r ino) is
  where
    from : (o : Option UsedInode) → option_and_then (λ u. block_at_index u index) o ≡ Some b
        → (u : UsedInode) × (o ≡ Some u) × (slice_index u.numbers index ≡ b) × ((slice_index u.numbers index == 0) ≡ false)
    from None is = absurd cc
    from (Some u) is = (u, refl, named_number u index b is, named_some u index b is)

-- a block of a file of the tree is the one that the reading names, if it names one
pub block_read : (g : Geometry) (blocks : Blocks) (ino index : ℕ) (file : FileNode) → tree_of g blocks ino ≡ Some (File file)
    → block_at file index ≡ option_map (bytes_at blocks) (named_block (reading_of g blocks) ino index)
unfolding tree_of
block_read g blocks ino index file is = sym (ap (λ (o : Option Node). block_of o index) is) ∙ block_of_read blocks index (used_at (reading_of g blocks) ino)

pub block_by_name : (g : Geometry) (blocks : Blocks) (ino index b : ℕ) (file : FileNode) → tree_of g blocks ino ≡ Some (File file) → named_block (reading_of g blocks) ino index ≡ Some b
    → block_at file index ≡ Some (take 4096 (blocks b))
block_by_name g blocks ino index b file is names = block_read g blocks ino index file is ∙ ap (option_map (bytes_at blocks)) names

-- a byte of a file of the tree is in the block that the reading names for it
pub byte_by_tree : (g : Geometry) (blocks : Blocks) (ino p value b : ℕ) → HasByteOf (tree_of g blocks) ino p value → Names (reading_of g blocks) ino p b
    → slice_index (take 4096 (blocks b)) (p % 4096) ≡ value
byte_by_tree g blocks ino p value b has names =
    subst (λ (o : Option (List ℕ)). IsSomeAnd o (λ bytes. slice_index bytes (p % 4096) ≡ value)) (block_by_name g blocks ino (p / 4096) b has.file has.is names) has.has.claimed
