-- What a call that isn't refused does to the tree: for each call its edits, in order.
use Rattle.std.specs.Prelude.{ℕ, ◌==◌, not, ◌&&◌, ◌||◌, if◌then◌else◌, List, [], ◌∷◌, ◌++◌, Option, Some, None, is_some, option_and_then}
use Rattle.std.specs.Option.{option_map_or}
use Rattle.lufs_base.specs.declared.geometry.Geometry.{Geometry}
use Rattle.tree_types.specs.declared.credentials.Cred.{Cred}
use Rattle.tree_types.specs.declared.call.Call.{Call}
use Rattle.tree_types.specs.declared.call.Call.TheVariants as call
use Rattle.volume_model.specs.Sound.{Attributes, FileNode, Node, File, Directory, Link, Tree, claimed_at}
use Rattle.volume_model.specs.Format.{new_directory}
use Rattle.history_model.specs.Places.{attributes_in, is_directory_in, file_in, links_in}
use Rattle.history_model.specs.Walk.{WalkEnd}
use Rattle.history_model.specs.Ends.{WalkEnds, One, Two}
use Rattle.history_model.specs.Edits.{Edit, Make, Drop, Enter, TakeOut, Point, SetParent, SetAttributes, SetTime, SetFile}
use Rattle.history_model.specs.FileBytes.{written, cut_to, blocks_cut}
use Rattle.history_model.specs.Wants.{file_found}

abbrev pub new_attributes : Cred → (rights moment : ℕ) → Attributes
new_attributes cred rights moment = record { rights = rights; uid = cred.uid; gid = cred.gid; mtime = moment }

abbrev pub new_file : Cred → (rights moment : ℕ) → Node
new_file cred rights moment = File (record { attributes = new_attributes cred rights moment; size = 0; blocks = []; pointers = [] })

abbrev pub new_subdirectory : Cred → (rights moment i parent : ℕ) → Node
new_subdirectory cred rights moment i parent = Directory (record { attributes = new_attributes cred rights moment; chunks = new_directory i parent ∷ [] })

-- a link has all rights
abbrev pub new_link : Cred → (moment : ℕ) → (text : List ℕ) → Node
new_link cred moment text = Link (record { attributes = new_attributes cred 0x1ff moment; text = text })

-- the directory gives inode i a new name
abbrev pub naming : WalkEnd → (i moment : ℕ) → List Edit
naming p i moment = Enter p.dir p.name i ∷ (SetTime p.dir moment ∷ [])

-- a new inode with a new name
abbrev pub making : WalkEnd → (i moment : ℕ) → Node → List Edit
making p i moment node = Make i node ∷ naming p i moment

-- the node of the inode that a call makes where its walk ends so; none where it makes no inode
abbrev pub made_node : Cred → (ino moment : ℕ) → Call → WalkEnd → Option Node
made_node cred ino moment (call.Create path mode) p = Some (new_file cred mode moment)
made_node cred ino moment (call.Mkdir path mode) p = Some (new_subdirectory cred mode moment ino p.dir)
made_node cred ino moment (call.Symlink text path) p = Some (new_link cred moment text)
made_node cred ino moment other p = None

-- inode i, if it goes when it loses a name: a directory does, and anything else does with its last name
abbrev pub lost_by : Geometry → Tree → (i : ℕ) → Option ℕ
lost_by g tree i = if is_directory_in tree i || links_in g tree i == 1 then Some i else None

-- what follows when inode i loses a name
abbrev pub losing : Geometry → Tree → (i : ℕ) → List Edit
losing g tree i = option_map_or (λ lost. Drop lost ∷ []) (lost_by g tree i) []

-- a name of inode i goes
abbrev pub removing : Geometry → Tree → WalkEnd → (i moment : ℕ) → List Edit
removing g tree p i moment = TakeOut p.dir p.name ∷ (SetTime p.dir moment ∷ losing g tree i)

-- the new name is inode i's: in the slot of what had it, which loses a name, or else as an entered name
abbrev pub taking_name : Geometry → Tree → (new : WalkEnd) → (i : ℕ) → List Edit
taking_name g tree new i = option_map_or (λ replaced. Point new.dir new.name i ∷ losing g tree replaced) new.found (Enter new.dir new.name i ∷ [])

-- a directory that comes into another one has that above it
abbrev pub following : Tree → (old new : WalkEnd) → (i : ℕ) → List Edit
following tree old new i = if is_directory_in tree i && not (new.dir == old.dir) then SetParent i new.dir ∷ [] else []

abbrev pub renaming : Geometry → Tree → (old new : WalkEnd) → (i moment : ℕ) → List Edit
renaming g tree old new i moment =
    taking_name g tree new i ++ (TakeOut old.dir old.name ∷ (following tree old new i ++ (SetTime new.dir moment ∷ (SetTime old.dir moment ∷ []))))

-- other attributes of inode i; its time stays
abbrev pub changing : Tree → (i : ℕ) → (Attributes → Attributes) → List Edit
changing tree i f = option_map_or (λ node. SetAttributes i (f (attributes_in node)) ∷ []) (tree i) []

-- other bytes of file i
abbrev pub rewriting : Tree → (i moment : ℕ) → (FileNode → FileNode) → List Edit
rewriting tree i moment f = option_map_or (λ file. SetFile i (f file) ∷ (SetTime i moment ∷ [])) (file_in tree i) []

-- the edits on the inode that was found; none where none was
abbrev pub on_found_inode : Option ℕ → (ℕ → List Edit) → List Edit
on_found_inode found edits = option_map_or edits found []

-- the edits of a call whose walks end so and which isn't refused; a call that makes an inode gives it number `ino`
abbrev pub edits_at : Geometry → Tree → Cred → (ino moment : ℕ) → Call → WalkEnds → List Edit
edits_at g tree cred ino moment (call.Create path mode) (One p) = making p ino moment (new_file cred mode moment)
edits_at g tree cred ino moment (call.Mkdir path mode) (One p) = making p ino moment (new_subdirectory cred mode moment ino p.dir)
edits_at g tree cred ino moment (call.Link old new) (Two p q) = on_found_inode p.found (λ i. naming q i moment)
edits_at g tree cred ino moment (call.Symlink text path) (One p) = making p ino moment (new_link cred moment text)
edits_at g tree cred ino moment (call.Rename old new) (Two p q) = on_found_inode p.found (λ i. renaming g tree p q i moment)
edits_at g tree cred ino moment (call.Remove path) (One p) = on_found_inode p.found (λ i. removing g tree p i moment)
edits_at g tree cred ino moment (call.Rmdir path) (One p) = on_found_inode p.found (λ i. removing g tree p i moment)
edits_at g tree cred ino moment (call.Chmod path mode) (One p) = on_found_inode p.found (λ i. changing tree i (λ a. record a { rights = mode }))
edits_at g tree cred ino moment (call.Chown path uid gid) (One p) = on_found_inode p.found (λ i. changing tree i (λ a. record a { uid = uid; gid = gid }))
edits_at g tree cred ino moment (call.Write path offset bytes) (One p) = on_found_inode p.found (λ i. rewriting tree i moment (λ file. written file offset bytes))
edits_at g tree cred ino moment (call.Trunc path size) (One p) = on_found_inode p.found (λ i. rewriting tree i moment (λ file. cut_to file size))
edits_at g tree cred ino moment other ends = []

-- the inode that a call frees where its walks end so, if it isn't refused
abbrev pub freed_at : Geometry → Tree → Call → WalkEnds → Option ℕ
freed_at g tree (call.Remove path) (One p) = option_and_then (lost_by g tree) p.found
freed_at g tree (call.Rmdir path) (One p) = option_and_then (lost_by g tree) p.found
freed_at g tree (call.Rename old new) (Two p q) = if is_some p.found then option_and_then (lost_by g tree) q.found else None
freed_at g tree other ends = None

-- how many blocks a call frees where its walks end so: those of the inode that it frees, or those that a file loses
abbrev pub freed_blocks_at : Geometry → Tree → Call → WalkEnds → ℕ
freed_blocks_at g tree (call.Trunc path size) (One p) = option_map_or (λ file. blocks_cut file size) (file_found tree p) 0
freed_blocks_at g tree other ends = option_map_or (claimed_at tree) (freed_at g tree other ends) 0
