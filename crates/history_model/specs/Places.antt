-- What stands in a tree at an inode, what a directory names, and what a caller may do with an inode.
use Rattle.std.specs.Prelude.{ℕ, ◌==◌, Bool, true, false, not, ◌&&◌, ◌||◌, List, [], find, bytes_eq, sum_by, Option, Some, None, option_map}
use Rattle.std.specs.List.{flat_map, count_by, filter, range_with_len}
use Rattle.std.specs.Option.{option_map_or}
use Rattle.lufs_base.specs.declared.geometry.Geometry.{Geometry}
use Rattle.tree_types.specs.declared.credentials.Cred.{Cred}
use Rattle.tree_types.specs.Permits.{permits}
use Rattle.volume_model.specs.declared.directory.Slot.{Slot}
use Rattle.volume_model.specs.Format.{inodes_of}
use Rattle.volume_model.specs.Sound.{Attributes, FileNode, Node, File, Directory, Link, Tree, dot, dot_dot}

abbrev pub attributes_in : Node → Attributes
attributes_in (File file) = file.attributes
attributes_in (Directory directory) = directory.attributes
attributes_in (Link link) = link.attributes

abbrev pub is_directory_node : Node → Bool
is_directory_node (File file) = false
is_directory_node (Directory directory) = true
is_directory_node (Link link) = false

abbrev pub is_link_node : Node → Bool
is_link_node (File file) = false
is_link_node (Directory directory) = false
is_link_node (Link link) = true

abbrev pub file_of : Node → Option FileNode
file_of (File file) = Some file
file_of (Directory directory) = None
file_of (Link link) = None

abbrev pub chunks_of_node : Node → List (List Slot)
chunks_of_node (File file) = []
chunks_of_node (Directory directory) = directory.chunks
chunks_of_node (Link link) = []

abbrev pub is_directory_in : Tree → ℕ → Bool
is_directory_in tree i = option_map_or is_directory_node (tree i) false

abbrev pub is_link_in : Tree → ℕ → Bool
is_link_in tree i = option_map_or is_link_node (tree i) false

-- the file that inode i is, if it is one
abbrev pub file_in : Tree → ℕ → Option FileNode
file_in tree i = option_map_or file_of (tree i) None

-- the chunks of directory i; none where it is no directory
abbrev pub chunks_in : Tree → ℕ → List (List Slot)
chunks_in tree i = option_map_or chunks_of_node (tree i) []

-- the slots of a directory, chunk by chunk
abbrev pub slots_in_node : Node → List Slot
slots_in_node node = flat_map (λ chunk. chunk) (chunks_of_node node)

abbrev pub directory_slots : Tree → ℕ → List Slot
directory_slots tree i = option_map_or slots_in_node (tree i) []

-- the slot is in use, and this is its name
abbrev pub has_name : List ℕ → Slot → Bool
has_name name s = not (s.ino == 0) && bytes_eq s.name name

-- the inode that directory `dir` gives this name
abbrev pub lookup : Tree → (dir : ℕ) → (name : List ℕ) → Option ℕ
lookup tree dir name = option_map (λ s. s.ino) (find (has_name name) (directory_slots tree dir))

-- the name is that of a directory itself, or of the one above it
abbrev pub is_dots : List ℕ → Bool
is_dots name = bytes_eq name dot || bytes_eq name dot_dot

-- what a directory names besides itself and the one above it
abbrev pub entries_in : Tree → ℕ → List Slot
entries_in tree i = filter (λ s. not (s.ino == 0) && not (is_dots s.name)) (directory_slots tree i)

-- how many slots name inode i: its links
unfoldable pub links_in : Geometry → Tree → ℕ → ℕ
links_in g tree i = sum_by (λ j. count_by (λ s. s.ino == i) (directory_slots tree j)) (range_with_len 0 (inodes_of g))

-- the caller has this right on a node: 4 to read, 2 to write, 1 to search
abbrev pub permits_on : Cred → (bit : ℕ) → Node → Bool
permits_on cred bit node = let a = attributes_in node in permits cred a.rights a.uid a.gid bit

-- the caller has this right on inode i
abbrev pub may : Tree → Cred → (i bit : ℕ) → Bool
may tree cred i bit = option_map_or (permits_on cred bit) (tree i) false
