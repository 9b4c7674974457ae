-- The edits of a tree that calls are made of.
use Rattle.std.specs.Prelude.{ℕ, true, false, List, [], ◌∷◌, Some, None, is_some}
use Rattle.volume_model.specs.declared.directory.Slot.{Slot}
use Rattle.volume_model.specs.Sound.{Attributes, FileNode, Node, File, Directory, Link, Tree, dot_dot, with_node}
use Rattle.volume_model.specs.Format.{room_in, with_name, found_at, with_ino, without_slot, one_slot}
use Rattle.history_model.specs.Places.{attributes_in}

-- one change of a tree
pub data Edit : Type 0 where
  -- inode i is this node now
  Make : (i : ℕ) → Node → Edit
  -- inode i is free now
  Drop : (i : ℕ) → Edit
  -- the directory gives inode i a name that it didn't give
  Enter : (dir : ℕ) → (name : List ℕ) → (i : ℕ) → Edit
  -- the directory doesn't give the name any more
  TakeOut : (dir : ℕ) → (name : List ℕ) → Edit
  -- the directory gives this name to inode i now
  Point : (dir : ℕ) → (name : List ℕ) → (i : ℕ) → Edit
  -- the directory has this one above it now
  SetParent : (dir parent : ℕ) → Edit
  SetAttributes : (i : ℕ) → Attributes → Edit
  SetTime : (i moment : ℕ) → Edit
  SetFile : (i : ℕ) → FileNode → Edit

-- the chunks after a name was entered: the first chunk with room takes it, or else a new one
abbrev pub entered_in : List (List Slot) → (name : List ℕ) → (i : ℕ) → List (List Slot)
entered_in [] name i = one_slot name i ∷ []
entered_in (chunk ∷ chunks) name i =
    elim (is_some (room_in chunk name)) [ true ↦ with_name chunk name i ∷ chunks | false ↦ chunk ∷ entered_in chunks name i ]

-- the chunks with the first one that has the name changed, at the place of its slot
abbrev pub changed_in : (List Slot → ℕ → List Slot) → List (List Slot) → (name : List ℕ) → List (List Slot)
changed_in f [] name = []
changed_in f (chunk ∷ chunks) name =
    elim (found_at chunk name) [ Some place ↦ f chunk place ∷ chunks | None ↦ chunk ∷ changed_in f chunks name ]

-- the chunks without the name
abbrev pub taken_out_of : List (List Slot) → (name : List ℕ) → List (List Slot)
taken_out_of chunks name = changed_in without_slot chunks name

-- the chunks in which the name is that of inode i
abbrev pub pointed_in : List (List Slot) → (name : List ℕ) → (i : ℕ) → List (List Slot)
pointed_in chunks name i = changed_in (λ slots place. with_ino slots place i) chunks name

-- f of the chunks, if the node is a directory
abbrev pub on_chunks : (List (List Slot) → List (List Slot)) → Node → Node
on_chunks f (File file) = File file
on_chunks f (Directory directory) = Directory (record directory { chunks = f directory.chunks })
on_chunks f (Link link) = Link link

abbrev pub with_attributes : Attributes → Node → Node
with_attributes a (File file) = File (record file { attributes = a })
with_attributes a (Directory directory) = Directory (record directory { attributes = a })
with_attributes a (Link link) = Link (record link { attributes = a })

abbrev pub with_time : (moment : ℕ) → Node → Node
with_time moment node = with_attributes (record (attributes_in node) { mtime = moment }) node

-- the tree with the node of inode i changed; where inode i is free, the same tree
abbrev pub on_node : ℕ → (Node → Node) → Tree → Tree
on_node i f tree = elim (tree i) [ None ↦ tree | Some node ↦ with_node tree i (Some (f node)) ]

-- the tree after an edit
unfoldable pub edited : Edit → Tree → Tree
edited (Make i node) tree = with_node tree i (Some node)
edited (Drop i) tree = with_node tree i None
edited (Enter dir name i) tree = on_node dir (on_chunks (λ chunks. entered_in chunks name i)) tree
edited (TakeOut dir name) tree = on_node dir (on_chunks (λ chunks. taken_out_of chunks name)) tree
edited (Point dir name i) tree = on_node dir (on_chunks (λ chunks. pointed_in chunks name i)) tree
edited (SetParent dir parent) tree = on_node dir (on_chunks (λ chunks. pointed_in chunks dot_dot parent)) tree
edited (SetAttributes i a) tree = on_node i (with_attributes a) tree
edited (SetTime i moment) tree = on_node i (with_time moment) tree
edited (SetFile i file) tree = with_node tree i (Some (File file))

-- the tree after these edits, in order
abbrev pub edited_all : List Edit → Tree → Tree
edited_all [] tree = tree
edited_all (edit ∷ edits) tree = edited_all edits (edited edit tree)
