-- The files of a tree stay right under every call.
use Rattle.std.proofs.Common.{◌≡◌, ◌≤◌, ℕ, zero, suc, ◌+◌, Bool, true, false, not, ◌&&◌, cond, List, [], ◌∷◌, ◌++◌, length, take, replicate, Option, Some, None, Result, Ok, Err, refl, sym, ap, subst, ◌∙◌, inl, inr, arith, max}
use Rattle.std.specs.Prelude.{◌==◌}
use Rattle.std.specs.Option.{option_map_or}
use Rattle.lufs_base.specs.declared.geometry.Geometry.{Geometry}
use Rattle.tree_types.specs.declared.credentials.Cred.{Cred}
use Rattle.tree_types.specs.declared.call.Call.{Call}
use Rattle.tree_types.specs.declared.call.Call.TheVariants as call
use Rattle.tree_types.specs.declared.reply.Refusal.{Refusal}
use Rattle.volume_model.specs.declared.directory.Slot.{Slot}
use Rattle.volume_model.specs.Sound.{PointerName, Single, Attributes, FileNode, Node, File, Directory, Link, Tree, with_node, size_in_blocks, dot_dot}
use Rattle.history_model.specs.Places.{attributes_in, is_directory_in, file_in, file_of}
use Rattle.history_model.specs.Walk.{WalkEnd}
use Rattle.history_model.specs.Ends.{WalkEnds, One, Two, ends_of}
use Rattle.history_model.specs.FileBytes.{resized, written_block, map_from, at_length, needs_pointers, written, cut_to}
use Rattle.history_model.specs.Edits.{Edit, Make, Drop, Enter, TakeOut, Point, SetParent, SetAttributes, SetTime, SetFile, entered_in, taken_out_of, pointed_in, on_chunks, with_attributes, with_time, on_node, edited, edited_all}
use Rattle.history_model.specs.Effects.{losing, lost_by, naming, removing, renaming, taking_name, following, changing, rewriting, on_found_inode, edits_at}
use Rattle.history_model.specs.Refusals.{Decision, Refuse, Unchanged, Proceed, decision_at}
use Rattle.history_model.specs.Replies.{decided, walked_tree, tree_after}
use Rattle.history_rules.specs.Used.{IsRightFile, HasRightFiles}
use Rattle.history_rules.proofs.NodeLaws.{with_node-here, with_node-other}
use Rattle.history_rules.proofs.TotalLaws.{same_or_not}

length-map_from : {X Y : Type 0} (f : ℕ → X → Y) (index : ℕ) (xs : List X) → length (map_from f index xs) ≡ length xs
length-map_from f index [] = refl
length-map_from f index (x ∷ xs) = ap suc (length-map_from f (index + 1) xs)

abbrev Blocks : Type 0
Blocks = List (Option (List ℕ))

abbrev holes : (n m : ℕ) → Blocks
holes n m = take n (replicate m None)

length-holes : (n m : ℕ) → n ≤ m → length (holes n m) ≡ n
length-holes zero m fits = refl
length-holes (suc n) zero fits = absurd (omega arith)
length-holes (suc n) (suc m) fits = ap suc (length-holes n m (omega arith))

length-padded : (blocks : Blocks) (n m : ℕ) → n ≤ m → length (take n (blocks ++ replicate m None)) ≡ n
length-padded [] n m fits = length-holes n m fits
length-padded (block ∷ blocks) zero m fits = refl
length-padded (block ∷ blocks) (suc n) m fits = ap suc (length-padded blocks n m (omega arith))

few_pointers : (needed : Bool) (pointers : List PointerName) → length pointers ≤ 1 → length (cond needed (Single ∷ []) pointers) ≤ 1
few_pointers true pointers few = omega arith
few_pointers false pointers few = few

fewer_pointers : (small : Bool) (pointers : List PointerName) → length pointers ≤ 1 → length (cond small [] pointers) ≤ 1
fewer_pointers true pointers few = omega arith
fewer_pointers false pointers few = few

written_right : (file : FileNode) (offset : ℕ) (bytes : List ℕ) → IsRightFile file → IsRightFile (written file offset bytes)
written_right file offset bytes right =
    let size = max file.size (offset + length bytes) in
    let n = size_in_blocks size in
    record {
      blocks = length-map_from (written_block file.size size offset bytes) 0 (at_length n file.blocks) ∙ length-padded file.blocks n n (omega arith);
      pointers = few_pointers (needs_pointers offset (length bytes)) file.pointers right.pointers;
    }

cut_right : (file : FileNode) (size : ℕ) → IsRightFile file → IsRightFile (cut_to file size)
cut_right file size right =
    let n = size_in_blocks size in
    record {
      blocks = length-map_from (resized file.size size) 0 (at_length n file.blocks) ∙ length-padded file.blocks n n (omega arith);
      pointers = fewer_pointers _ file.pointers right.pointers;
    }

abbrev IsRightNode : Node → Type 0
IsRightNode (File file) = IsRightFile file
IsRightNode (Directory directory) = Unit {0}
IsRightNode (Link link) = Unit {0}

abbrev AreRight : Tree → Type 0
AreRight tree = (i : ℕ) (n : Node) → tree i ≡ Some n → IsRightNode n

some_same : (n m : Node) → Some n ≡ Some m → n ≡ m
some_same n m is = cc

put_right : (tree : Tree) (i : ℕ) (node : Node) → AreRight tree → IsRightNode node → AreRight (with_node tree i (Some node))
put_right tree i node right here k n is = elim (same_or_not k i) [
  | inl same ↦ subst IsRightNode (some_same node n (sym (ap (λ (j : ℕ). with_node tree i (Some node) j) same ∙ with_node-here tree i (Some node)) ∙ is)) here
  | inr apart ↦ right k n (sym (with_node-other tree i k (Some node) apart) ∙ is)
]

dropped_right : (tree : Tree) (i : ℕ) → AreRight tree → AreRight (with_node tree i None)
dropped_right tree i right k n is = elim (same_or_not k i) [
  | inl same ↦ absurd (let none : None ≡ Some n = sym (ap (λ (j : ℕ). with_node tree i None j) same ∙ with_node-here tree i None) ∙ is in cc)
  | inr apart ↦ right k n (sym (with_node-other tree i k None apart) ∙ is)
]

edited_right : (tree : Tree) (i : ℕ) (f : Node → Node) → ((n : Node) → IsRightNode n → IsRightNode (f n)) → AreRight tree → AreRight (on_node i f tree)
edited_right tree i f keeps right = by_node (tree i) refl where
  by_node : (o : Option Node) → tree i ≡ o → AreRight (elim o [ None ↦ tree | Some node ↦ with_node tree i (Some (f node)) ])
  by_node None is = right
  by_node (Some n) is = put_right tree i (f n) right (keeps n (right i n is))

chunks_right : (f : List (List Slot) → List (List Slot)) (n : Node) → IsRightNode n → IsRightNode (on_chunks f n)
chunks_right f (File file) right = right
chunks_right f (Directory directory) right = tt
chunks_right f (Link link) right = tt

attributes_right : (a : Attributes) (n : Node) → IsRightNode n → IsRightNode (with_attributes a n)
attributes_right a (File file) right = record { blocks = right.blocks; pointers = right.pointers }
attributes_right a (Directory directory) right = tt
attributes_right a (Link link) right = tt

-- an edit that puts a right node, or none
abbrev IsRightEdit : Edit → Type 0
IsRightEdit (Make i node) = IsRightNode node
IsRightEdit (SetFile i file) = IsRightFile file
IsRightEdit other = Unit {0}

edit_right : (edit : Edit) → IsRightEdit edit → (tree : Tree) → AreRight tree → AreRight (edited edit tree)
unfolding edited
edit_right (Make i node) here tree right = put_right tree i node right here
edit_right (Drop i) here tree right = dropped_right tree i right
edit_right (Enter dir name i) here tree right = edited_right tree dir (on_chunks (λ chunks. entered_in chunks name i)) (chunks_right (λ chunks. entered_in chunks name i)) right
edit_right (TakeOut dir name) here tree right = edited_right tree dir (on_chunks (λ chunks. taken_out_of chunks name)) (chunks_right (λ chunks. taken_out_of chunks name)) right
edit_right (Point dir name i) here tree right = edited_right tree dir (on_chunks (λ chunks. pointed_in chunks name i)) (chunks_right (λ chunks. pointed_in chunks name i)) right
edit_right (SetParent dir parent) here tree right = edited_right tree dir (on_chunks (λ chunks. pointed_in chunks dot_dot parent)) (chunks_right (λ chunks. pointed_in chunks dot_dot parent)) right
edit_right (SetAttributes i a) here tree right = edited_right tree i (with_attributes a) (attributes_right a) right
edit_right (SetTime i moment) here tree right = edited_right tree i (with_time moment) (λ n. attributes_right (record (attributes_in n) { mtime = moment }) n) right
edit_right (SetFile i file) here tree right = put_right tree i (File file) right here

abbrev AreRightEdits : List Edit → Type 0
AreRightEdits [] = Unit {0}
AreRightEdits (edit ∷ edits) = IsRightEdit edit × AreRightEdits edits

edits_right : (edits : List Edit) → AreRightEdits edits → (tree : Tree) → AreRight tree → AreRight (edited_all edits tree)
edits_right [] here tree right = right
edits_right (edit ∷ edits) (first, rest) tree right = edits_right edits rest (edited edit tree) (edit_right edit first tree right)

append_right : (edits more : List Edit) → AreRightEdits edits → AreRightEdits more → AreRightEdits (edits ++ more)
append_right [] more here rest = rest
append_right (edit ∷ edits) more (first, here) rest = (first, append_right edits more here rest)

module _ (g : Geometry) (tree : Tree) (right : AreRight tree) (cred : Cred) (ino moment : ℕ) where
  losing_right : (found : Option ℕ) → AreRightEdits (option_map_or (λ i. Drop i ∷ []) found [])
  losing_right None = tt
  losing_right (Some i) = (tt, tt)

  following_right : (b : Bool) (p q : WalkEnd) (i : ℕ) → AreRightEdits (TakeOut p.dir p.name ∷ (cond b (SetParent i q.dir ∷ []) [] ++ (SetTime q.dir moment ∷ (SetTime p.dir moment ∷ []))))
  following_right true p q i = (tt, (tt, (tt, (tt, tt))))
  following_right false p q i = (tt, (tt, (tt, tt)))

  taking_right : (q : WalkEnd) (i : ℕ) (found : Option ℕ) → AreRightEdits (option_map_or (λ replaced. Point q.dir q.name i ∷ losing g tree replaced) found (Enter q.dir q.name i ∷ []))
  taking_right q i None = (tt, tt)
  taking_right q i (Some replaced) = (tt, losing_right (lost_by g tree replaced))

  renaming_right : (p q : WalkEnd) (found : Option ℕ) → AreRightEdits (on_found_inode found (λ i. renaming g tree p q i moment))
  renaming_right p q None = tt
  renaming_right p q (Some i) =
      append_right (taking_name g tree q i) (TakeOut p.dir p.name ∷ (following tree p q i ++ (SetTime q.dir moment ∷ (SetTime p.dir moment ∷ []))))
      (taking_right q i q.found) (following_right (is_directory_in tree i && not (q.dir == p.dir)) p q i)

  naming_right : (q : WalkEnd) (found : Option ℕ) → AreRightEdits (on_found_inode found (λ i. naming q i moment))
  naming_right q None = tt
  naming_right q (Some i) = (tt, (tt, tt))

  removing_right : (p : WalkEnd) (found : Option ℕ) → AreRightEdits (on_found_inode found (λ i. removing g tree p i moment))
  removing_right p None = tt
  removing_right p (Some i) = (tt, (tt, losing_right (lost_by g tree i)))

  changing_right : (f : Attributes → Attributes) (found : Option ℕ) → AreRightEdits (on_found_inode found (λ i. changing tree i f))
  changing_right f None = tt
  changing_right f (Some i) = by_node (tree i) where
    by_node : (o : Option Node) → AreRightEdits (option_map_or (λ node. SetAttributes i (f (attributes_in node)) ∷ []) o [])
    by_node None = tt
    by_node (Some node) = (tt, tt)

  file_there : (o : Option Node) (file : FileNode) → option_map_or file_of o None ≡ Some file → ((n : Node) → o ≡ Some n → IsRightNode n) → IsRightFile file
  file_there None file is all = absurd (let e : None ≡ Some file = is in cc)
  file_there (Some (File other)) file is all = let same : other ≡ file = cc in subst IsRightFile same (all (File other) refl)
  file_there (Some (Directory directory)) file is all = absurd (let e : None ≡ Some file = is in cc)
  file_there (Some (Link link)) file is all = absurd (let e : None ≡ Some file = is in cc)

  rewriting_right : (f : FileNode → FileNode) → ((file : FileNode) → IsRightFile file → IsRightFile (f file)) → (found : Option ℕ) → AreRightEdits (on_found_inode found (λ i. rewriting tree i moment f))
  rewriting_right f keeps None = tt
  rewriting_right f keeps (Some i) = by_file (file_in tree i) refl where
    by_file : (o : Option FileNode) → file_in tree i ≡ o → AreRightEdits (option_map_or (λ file. SetFile i (f file) ∷ (SetTime i moment ∷ [])) o [])
    by_file None is = tt
    by_file (Some file) is = (keeps file (file_there (tree i) file is (λ n there. right i n there)), (tt, tt))

  at_right : (c : Call) (ends : WalkEnds) → AreRightEdits (edits_at g tree cred ino moment c ends)
  at_right (call.Create path mode) (One p) = (record { blocks = refl; pointers = omega arith }, (tt, (tt, tt)))
  at_right (call.Mkdir path mode) (One p) = (tt, (tt, (tt, tt)))
  at_right (call.Symlink text path) (One p) = (tt, (tt, (tt, tt)))
  at_right (call.Link old new) (Two p q) = naming_right q p.found
  at_right (call.Rename old new) (Two p q) = renaming_right p q p.found
  at_right (call.Remove path) (One p) = removing_right p p.found
  at_right (call.Rmdir path) (One p) = removing_right p p.found
  at_right (call.Chmod path mode) (One p) = changing_right (λ a. record a { rights = mode }) p.found
  at_right (call.Chown path uid gid) (One p) = changing_right (λ a. record a { uid = uid; gid = gid }) p.found
  at_right (call.Write path offset bytes) (One p) = rewriting_right (λ file. written file offset bytes) (λ file is. written_right file offset bytes is) p.found
  at_right (call.Trunc path size) (One p) = rewriting_right (λ file. cut_to file size) (λ file is. cut_right file size is) p.found
  at_right c ends = tt

  decided_right : (d : Decision) (edits : List Edit) → AreRightEdits edits → AreRight (decided d tree (edited_all edits tree))
  decided_right (Refuse why) edits are = right
  decided_right Unchanged edits are = right
  decided_right Proceed edits are = edits_right edits are tree right

  walked_right : (c : Call) (ends : Result WalkEnds Refusal) → AreRight (walked_tree g tree cred ino moment c ends)
  walked_right c (Err why) = right
  walked_right c (Ok ends) = decided_right (decision_at g tree cred c ends) (edits_at g tree cred ino moment c ends) (at_right c ends)

  after_right : (c : Call) → AreRight (tree_after g tree cred ino moment c)
  unfolding tree_after
  after_right c = walked_right c (ends_of tree cred c)

all_right : (tree : Tree) → HasRightFiles tree → AreRight tree
all_right tree files i (File file) is = files i file is
all_right tree files i (Directory directory) is = tt
all_right tree files i (Link link) is = tt

pub files_right : (g : Geometry) (tree : Tree) (cred : Cred) (ino moment : ℕ) (c : Call) → HasRightFiles tree → HasRightFiles (tree_after g tree cred ino moment c)
files_right g tree cred ino moment c files = λ i file is. after_right g tree (all_right tree files) cred ino moment c i (File file) is
