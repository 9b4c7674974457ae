-- Small trees, to compute the definitions on.
use Rattle.std.specs.Prelude.{ℕ, List, [], ◌∷◌, nat_lt, true, false, ◌-◌, slice_get, None, codes}
use Rattle.volume_model.specs.declared.directory.Slot.{Slot}
use Rattle.volume_model.specs.Format.{new_directory}
use Rattle.volume_model.specs.Sound.{Attributes, Node, File, Directory, Tree}

-- these rights, of the superuser, changed at moment 1000
abbrev pub with_rights : ℕ → Attributes
with_rights rights = record { rights = rights; uid = 0; gid = 0; mtime = 1000 }

-- a directory of mode 755 with these chunks
abbrev pub directory_of : List (List Slot) → Node
directory_of chunks = Directory (record { attributes = with_rights 0x1ed; chunks = chunks })

-- an empty file of mode 644
abbrev pub empty_file : Node
empty_file = File (record { attributes = with_rights 0x1a4; size = 0; blocks = []; pointers = [] })

-- the tree in which these nodes stand from inode 2 on
abbrev pub tree_of_nodes : List Node → Tree
tree_of_nodes nodes i = elim (nat_lt i 2) [ true ↦ None | false ↦ slice_get nodes (i - 2) ]

-- the tree of a new volume
abbrev pub new_tree : Tree
new_tree = tree_of_nodes (directory_of (new_directory 2 2 ∷ []) ∷ [])

abbrev pub slot : (ino len : ℕ) → (name : List ℕ) → Slot
slot ino len name = record { ino = ino; len = len; name = name }

-- the first chunk of directory i, below this one, with these slots after the first two
abbrev pub first_chunk : (i parent : ℕ) → List Slot → List Slot
first_chunk i parent slots = slot i 12 (codes ".") ∷ (slot parent 12 (codes "..") ∷ slots)

-- the root with these chunks, and these nodes from inode 3 on
abbrev pub tree_with : (chunks : List (List Slot)) → (nodes : List Node) → Tree
tree_with chunks nodes = tree_of_nodes (directory_of chunks ∷ nodes)
