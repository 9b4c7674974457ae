-- The files of a tree after a call: an empty one, one that was there with the same size and blocks, or the one that the call
-- writes or cuts.
use Rattle.std.proofs.Common.{◌≡◌, inl, inr, ◌⊎◌, ℕ, Bool, true, false, ◌&&◌, List, [], ◌∷◌, ◌++◌, Option, Some, None, Result, Ok, Err, refl, sym, ap, ◌∙◌, subst}
use Rattle.std.specs.Prelude.{◌==◌, not, if◌then◌else◌}
use Rattle.std.specs.List.{AllByRecursion}
use Rattle.std.specs.Option.{option_map_or}
use Rattle.std.proofs.lemmas.Bool.{cases_Bool, eqb-true, eq-eqb, false≢true}
use Rattle.lufs_base.specs.declared.geometry.Geometry.{Geometry}
use Rattle.tree_types.specs.declared.credentials.Cred.{Cred}
use Rattle.tree_types.specs.declared.call.Call.{Call}
use Rattle.tree_types.specs.declared.call.Call.TheVariants as call
use Rattle.tree_types.specs.declared.reply.Refusal.{Refusal}
use Rattle.volume_model.specs.Sound.{Attributes, FileNode, Node, File, Directory, Link, Tree, with_node}
use Rattle.history_model.specs.Places.{attributes_in, is_directory_in, file_of, file_in}
use Rattle.history_model.specs.Walk.{WalkEnd, walk_of}
use Rattle.history_model.specs.Ends.{WalkEnds, NoPath, One, Two, is_long, and_then, unless_long, end_of, ends_of}
use Rattle.history_model.specs.Edits.{Edit, Make, Drop, Enter, TakeOut, Point, SetParent, SetAttributes, SetTime, SetFile, on_chunks, with_attributes, with_time, on_node, edited, edited_all}
use Rattle.history_model.specs.Effects.{lost_by, losing, taking_name, following, renaming, rewriting, edits_at}
use Rattle.history_model.specs.FileBytes.{written, cut_to}
use Rattle.history_model.specs.Replies.{tree_after}
use Rattle.history_model.specs.Touched.{names_inode}
use Rattle.history_rules.proofs.CarriedOutLaws.{after_holds}
use Rattle.journal_laws.proofs.Replays.{each_both}

-- a file that the tree has, of this size and these blocks
pub record IsOld (tree : Tree) (ino : ℕ) (new : FileNode) : Type 0 where
  pub old : FileNode
  pub is : tree ino ≡ Some (File old)
  pub size : new.size ≡ old.size
  pub blocks : new.blocks ≡ old.blocks

abbrev pub KeepFiles : (before after : Tree) → Type 0
KeepFiles before after = (ino : ℕ) (new : FileNode) → after ino ≡ Some (File new) → (new.blocks ≡ []) ⊎ IsOld before ino new

keep_same : (tree : Tree) → KeepFiles tree tree
keep_same tree ino new is = inr (record { old = new; is = is; size = refl; blocks = refl })

keep_both : (one two three : Tree) → KeepFiles one two → KeepFiles two three → KeepFiles one three
keep_both one two three first second ino new is = elim (second ino new is) [
  | inl empty ↦ inl empty
  | inr same ↦ elim (first ino same.old same.is) [
    | inl empty ↦ inl (same.blocks ∙ empty)
    | inr old ↦ inr (record { old = old.old; is = old.is; size = same.size ∙ old.size; blocks = same.blocks ∙ old.blocks })
  ]
]

-- another node of one inode
keep_with : (tree : Tree) (i : ℕ) (o : Option Node) → ((new : FileNode) → o ≡ Some (File new) → (new.blocks ≡ []) ⊎ IsOld tree i new) → KeepFiles tree (with_node tree i o)
keep_with tree i o here ino new is = by_test (ino == i) refl is
  where
    by_test : (b : Bool) → (ino == i) ≡ b → ◌≡◌ {A = Option Node} (elim b [ true ↦ o | false ↦ tree ino ]) (Some (File new)) → (new.blocks ≡ []) ⊎ IsOld tree ino new
    by_test true same at = subst (λ (k : ℕ). (new.blocks ≡ []) ⊎ IsOld tree k new) (sym (eqb-true ino i same)) (here new at)
    by_test false other at = inr (record { old = new; is = at; size = refl; blocks = refl })

-- a change of a node that leaves files their size and blocks
abbrev KeepsFile : (Node → Node) → Type 0
KeepsFile f = (node : Node) (new : FileNode) → f node ≡ File new → (old : FileNode) × (node ≡ File old) × (new.size ≡ old.size) × (new.blocks ≡ old.blocks)

keep_node : (tree : Tree) (i : ℕ) (f : Node → Node) → KeepsFile f → (node : Node) → tree i ≡ Some node → (new : FileNode) → ◌≡◌ {A = Option Node} (Some (f node)) (Some (File new))
    → (new.blocks ≡ []) ⊎ IsOld tree i new
keep_node tree i f keeps node is new at =
    let file = keeps node new (some_of at) in
    inr (record { old = file.0; is = is ∙ ap (λ (n : Node). Some n) file.1; size = file.2; blocks = file.3 })
  where
    some_of : {x y : Node} → ◌≡◌ {A = Option Node} (Some x) (Some y) → x ≡ y
    some_of at = cc

keep_on : (tree : Tree) (i : ℕ) (f : Node → Node) → KeepsFile f → KeepFiles tree (on_node i f tree)
keep_on tree i f keeps = by_node (tree i) refl
  where
    by_node : (o : Option Node) → tree i ≡ o → KeepFiles tree (let t : Tree = elim o [ None ↦ tree | Some node ↦ with_node tree i (Some (f node)) ] in t)
    by_node None is = keep_same tree
    by_node (Some node) is = keep_with tree i (Some (f node)) (keep_node tree i f keeps node is)

abbrev node_size : Node → ℕ
node_size (File file) = file.size
node_size other = 0

abbrev node_blocks : Node → List (Option (List ℕ))
node_blocks (File file) = file.blocks
node_blocks other = []

on_chunks_keeps : (f : _) → KeepsFile (on_chunks f)
on_chunks_keeps f (File file) new is = (file, refl, sym (ap node_size is), sym (ap node_blocks is))
on_chunks_keeps f (Directory directory) new is = absurd cc
on_chunks_keeps f (Link link) new is = absurd cc

attributes_keep : (a : Attributes) → KeepsFile (with_attributes a)
attributes_keep a (File file) new is = (file, refl, sym (ap node_size is), sym (ap node_blocks is))
attributes_keep a (Directory directory) new is = absurd cc
attributes_keep a (Link link) new is = absurd cc

time_keeps : (moment : ℕ) → KeepsFile (with_time moment)
time_keeps moment node new is = attributes_keep (record (attributes_in node) { mtime = moment }) node new is

-- the edit gives no file blocks
abbrev pub LeavesFiles : Edit → Type 0
LeavesFiles (Make i (File file)) = file.blocks ≡ []
LeavesFiles (Make i other) = Unit {0}
LeavesFiles (SetFile i file) = ⊥
LeavesFiles other = Unit {0}

made_keeps : (tree : Tree) (i : ℕ) (node : Node) → LeavesFiles (Make i node) → KeepFiles tree (with_node tree i (Some node))
made_keeps tree i (File file) empty = keep_with tree i (Some (File file)) (λ new at. inl (sym (ap blocks_in at) ∙ empty))
  where
    blocks_in : Option Node → List (Option (List ℕ))
    blocks_in None = []
    blocks_in (Some node) = node_blocks node
made_keeps tree i (Directory directory) empty = keep_with tree i (Some (Directory directory)) (λ new at. absurd cc)
made_keeps tree i (Link link) empty = keep_with tree i (Some (Link link)) (λ new at. absurd cc)

edit_keeps : (e : Edit) (tree : Tree) → LeavesFiles e → KeepFiles tree (edited e tree)
unfolding edited
edit_keeps (Make i node) tree leaves = made_keeps tree i node leaves
edit_keeps (Drop i) tree leaves = keep_with tree i None (λ new at. absurd cc)
edit_keeps (Enter dir name i) tree leaves = keep_on tree dir (on_chunks _) (on_chunks_keeps _)
edit_keeps (TakeOut dir name) tree leaves = keep_on tree dir (on_chunks _) (on_chunks_keeps _)
edit_keeps (Point dir name i) tree leaves = keep_on tree dir (on_chunks _) (on_chunks_keeps _)
edit_keeps (SetParent dir parent) tree leaves = keep_on tree dir (on_chunks _) (on_chunks_keeps _)
edit_keeps (SetAttributes i a) tree leaves = keep_on tree i (with_attributes a) (attributes_keep a)
edit_keeps (SetTime i moment) tree leaves = keep_on tree i (with_time moment) (time_keeps moment)
edit_keeps (SetFile i file) tree leaves = absurd leaves

edits_keep : (edits : List Edit) (tree : Tree) → AllByRecursion LeavesFiles edits → KeepFiles tree (edited_all edits tree)
edits_keep [] tree all = keep_same tree
edits_keep (e ∷ edits) tree all = keep_both tree (edited e tree) (edited_all edits (edited e tree)) (edit_keeps e tree all.0) (edits_keep edits (edited e tree) all.1)

-- Which file a call gives other bytes.
abbrev pub IsRewritten : Tree → Cred → Call → (ino : ℕ) → (old new : FileNode) → Type 0
IsRewritten tree cred (call.Write path offset bytes) ino old new =
    (names_inode tree cred path ino ≡ true) × (new.size ≡ (written old offset bytes).size) × (new.blocks ≡ (written old offset bytes).blocks)
IsRewritten tree cred (call.Trunc path size) ino old new = (names_inode tree cred path ino ≡ true) × (new.size ≡ (cut_to old size).size) × (new.blocks ≡ (cut_to old size).blocks)
IsRewritten tree cred other ino old new = ⊥

pub data FileAfter (tree : Tree) (cred : Cred) (c : Call) (ino : ℕ) (new : FileNode) : Type 0 where
  Empty : new.blocks ≡ [] → FileAfter tree cred c ino new
  Same : IsOld tree ino new → FileAfter tree cred c ino new
  Rewritten : (old : FileNode) → tree ino ≡ Some (File old) → IsRewritten tree cred c ino old new → FileAfter tree cred c ino new

from_kept : (tree : Tree) (cred : Cred) (c : Call) (ino : ℕ) (new : FileNode) → (new.blocks ≡ []) ⊎ IsOld tree ino new → FileAfter tree cred c ino new
from_kept tree cred c ino new (inl empty) = Empty empty
from_kept tree cred c ino new (inr old) = Same old

-- the edits of the calls that give no file bytes
module _ (g : Geometry) (tree : Tree) where
  lost_leaves : (o : Option ℕ) → AllByRecursion LeavesFiles (option_map_or (λ lost. Drop lost ∷ []) o [])
  lost_leaves None = tt
  lost_leaves (Some i) = (tt, tt)

  losing_leaves : (i : ℕ) → AllByRecursion LeavesFiles (losing g tree i)
  losing_leaves i = lost_leaves (lost_by g tree i)

  taking_leaves : (new : WalkEnd) (i : ℕ) (o : Option ℕ) → AllByRecursion LeavesFiles (option_map_or (λ replaced. Point new.dir new.name i ∷ losing g tree replaced) o (Enter new.dir new.name i ∷ []))
  taking_leaves new i None = (tt, tt)
  taking_leaves new i (Some replaced) = (tt, losing_leaves replaced)

  following_leaves : (old new : WalkEnd) (i : ℕ) (b : Bool) → AllByRecursion LeavesFiles (if b then SetParent i new.dir ∷ [] else [])
  following_leaves old new i true = (tt, tt)
  following_leaves old new i false = tt

  renaming_leaves : (old new : WalkEnd) (i moment : ℕ) → AllByRecursion LeavesFiles (renaming g tree old new i moment)
  renaming_leaves old new i moment =
      each_both LeavesFiles (taking_name g tree new i) (TakeOut old.dir old.name ∷ (following tree old new i ++ (SetTime new.dir moment ∷ (SetTime old.dir moment ∷ []))))
      (taking_leaves new i new.found) (
        tt,
        each_both LeavesFiles (following tree old new i) (SetTime new.dir moment ∷ (SetTime old.dir moment ∷ []))
            (following_leaves old new i (is_directory_in tree i && not (new.dir == old.dir))) (tt, (tt, tt)),
      )

  changing_leaves : (i : ℕ) (f : Attributes → Attributes) (o : Option Node) → AllByRecursion LeavesFiles (option_map_or (λ node. SetAttributes i (f (attributes_in node)) ∷ []) o [])
  changing_leaves i f None = tt
  changing_leaves i f (Some node) = (tt, tt)

  found_leaves : (o : Option ℕ) (edits : ℕ → List Edit) → ((i : ℕ) → AllByRecursion LeavesFiles (edits i)) → AllByRecursion LeavesFiles (option_map_or edits o [])
  found_leaves None edits each = tt
  found_leaves (Some i) edits each = each i

  -- no call but a write and a trunc
  abbrev pub gives_bytes : Call → Bool
  gives_bytes (call.Write path offset bytes) = true
  gives_bytes (call.Trunc path size) = true
  gives_bytes other = false

  others_leave : (cred : Cred) (n moment : ℕ) (c : Call) (ends : WalkEnds) → gives_bytes c ≡ false → AllByRecursion LeavesFiles (edits_at g tree cred n moment c ends)
  others_leave cred n moment (call.Create path mode) (One p) not = (refl, (tt, (tt, tt)))
  others_leave cred n moment (call.Mkdir path mode) (One p) not = (tt, (tt, (tt, tt)))
  others_leave cred n moment (call.Link old new) (Two p q) not = found_leaves p.found _ (λ i. (tt, (tt, tt)))
  others_leave cred n moment (call.Symlink text path) (One p) not = (tt, (tt, (tt, tt)))
  others_leave cred n moment (call.Rename old new) (Two p q) not = found_leaves p.found _ (λ i. renaming_leaves p q i moment)
  others_leave cred n moment (call.Remove path) (One p) not = found_leaves p.found _ (λ i. (tt, (tt, losing_leaves i)))
  others_leave cred n moment (call.Rmdir path) (One p) not = found_leaves p.found _ (λ i. (tt, (tt, losing_leaves i)))
  others_leave cred n moment (call.Chmod path mode) (One p) not = found_leaves p.found _ (λ i. changing_leaves i (λ a. record a { rights = mode }) (tree i))
  others_leave cred n moment (call.Chown path uid gid) (One p) not = found_leaves p.found _ (λ i. changing_leaves i (λ a. record a { uid = uid; gid = gid }) (tree i))
  others_leave cred n moment (call.Write path offset bytes) ends not = absurd (false≢true (sym not))
  others_leave cred n moment (call.Trunc path size) ends not = absurd (false≢true (sym not))
  others_leave cred n moment c ends not = tt

-- a file that gets other bytes
record Rewrote (tree : Tree) (i : ℕ) (f : FileNode → FileNode) (ino : ℕ) (new : FileNode) : Type 0 where
  pub old : FileNode
  pub is : tree ino ≡ Some (File old)
  pub same : i ≡ ino
  pub size : new.size ≡ (f old).size
  pub blocks : new.blocks ≡ (f old).blocks

abbrev AfterRewrite : Tree → ℕ → (FileNode → FileNode) → ℕ → FileNode → Type 0
AfterRewrite tree i f ino new = (new.blocks ≡ []) ⊎ IsOld tree ino new ⊎ Rewrote tree i f ino new

file_node : (o : Option Node) (file : FileNode) → option_map_or file_of o None ≡ Some file → o ≡ Some (File file)
file_node None file is = absurd cc
file_node (Some (File f)) file is = cc
file_node (Some (Directory directory)) file is = absurd cc
file_node (Some (Link link)) file is = absurd cc

at_rewritten : (tree : Tree) (i : ℕ) (f : FileNode → FileNode) (file : FileNode) → tree i ≡ Some (File file) → (ino : ℕ) (new : FileNode) → IsOld (with_node tree i (Some (File (f file)))) ino new
    → AfterRewrite tree i f ino new
at_rewritten tree i f file is ino new old = by_test (ino == i) refl old.is
  where
    by_test : (b : Bool) → (ino == i) ≡ b → ◌≡◌ {A = Option Node} (elim b [ true ↦ Some (File (f file)) | false ↦ tree ino ]) (Some (File old.old)) → AfterRewrite tree i f ino new
    by_test true same at =
        let here : ino ≡ i = eqb-true ino i same in
        inr (inr (record {
          old = file;
          is = ap tree here ∙ is;
          same = sym here;
          size = old.size ∙ sym (ap size_in at);
          blocks = old.blocks ∙ sym (ap blocks_in at);
        }))
      where
        size_in : Option Node → ℕ
        size_in None = 0
        size_in (Some node) = node_size node

        blocks_in : Option Node → List (Option (List ℕ))
        blocks_in None = []
        blocks_in (Some node) = node_blocks node
    by_test false other at = inr (inl (record { old = old.old; is = at; size = old.size; blocks = old.blocks }))

after_rewriting : (tree : Tree) (i moment : ℕ) (f : FileNode → FileNode) (ino : ℕ) (new : FileNode) → edited_all (rewriting tree i moment f) tree ino ≡ Some (File new) → AfterRewrite tree i f ino new
unfolding edited
after_rewriting tree i moment f ino new is = by_file (file_in tree i) refl is
  where
    by_file : (o : Option FileNode) → file_in tree i ≡ o → edited_all (option_map_or (λ file. SetFile i (f file) ∷ (SetTime i moment ∷ [])) o []) tree ino ≡ Some (File new) → AfterRewrite tree i f ino new
    by_file None none at = inr (inl (record { old = new; is = at; size = refl; blocks = refl }))
    by_file (Some file) some at =
        elim (keep_on (with_node tree i (Some (File (f file)))) i (with_time moment) (time_keeps moment) ino new at) [
          | inl empty ↦ inl empty
          | inr old ↦ at_rewritten tree i f file (file_node (tree i) file some) ino new old
        ]

abbrev found_of : Result WalkEnds Refusal → Option ℕ
found_of (Ok (One p)) = p.found
found_of other = None

-- what a path names is where its walk ends
named_by_walk : (long : Bool) (w : Result WalkEnd Refusal) (p : WalkEnd) → unless_long long (and_then w (λ q. Ok (One q))) ≡ Ok (One p)
    → ◌≡◌ {A = Option ℕ} (if long then None else elim w [ Ok q ↦ q.found | Err why ↦ None ]) p.found
named_by_walk true w p is = absurd cc
named_by_walk false (Ok q) p is = ap found_of is
named_by_walk false (Err why) p is = absurd cc

names_found : (tree : Tree) (cred : Cred) (path : List ℕ) (p : WalkEnd) (i ino : ℕ) → end_of tree cred true path ≡ Ok (One p) → p.found ≡ Some i → i ≡ ino → names_inode tree cred path ino ≡ true
names_found tree cred path p i ino ends found same =
    ap (λ (o : Option ℕ). option_map_or (λ (k : ℕ). k == ino) o false) (named_by_walk (is_long path) (walk_of tree cred path true) p ends ∙ found) ∙ eq-eqb i ino same

write_ends : (tree : Tree) (cred : Cred) (path : List ℕ) (offset : ℕ) (bytes : List ℕ) → ends_of tree cred (call.Write path offset bytes) ≡ end_of tree cred true path
unfolding ends_of
write_ends tree cred path offset bytes = refl

trunc_ends : (tree : Tree) (cred : Cred) (path : List ℕ) (size : ℕ) → ends_of tree cred (call.Trunc path size) ≡ end_of tree cred true path
unfolding ends_of
trunc_ends tree cred path size = refl

module _ (g : Geometry) (tree : Tree) (cred : Cred) (n moment : ℕ) where
  abbrev Holds : Call → Tree → Type 0
  Holds c after = (ino : ℕ) (new : FileNode) → after ino ≡ Some (File new) → FileAfter tree cred c ino new

  kept : (c : Call) (after : Tree) → KeepFiles tree after → Holds c after
  kept c after keeps ino new is = from_kept tree cred c ino new (keeps ino new is)

  written_at : (path : List ℕ) (offset : ℕ) (bytes : List ℕ) (p : WalkEnd) → ends_of tree cred (call.Write path offset bytes) ≡ Ok (One p) → (o : Option ℕ) → p.found ≡ o
      → Holds (call.Write path offset bytes) (edited_all (option_map_or (λ i. rewriting tree i moment (λ file. written file offset bytes)) o []) tree)
  written_at path offset bytes p ends None none ino new is = kept (call.Write path offset bytes) tree (keep_same tree) ino new is
  written_at path offset bytes p ends (Some i) found ino new is =
      elim (after_rewriting tree i moment (λ file. written file offset bytes) ino new is) [
        | inl empty ↦ Empty empty
        | inr (inl old) ↦ Same old
        | inr (inr by) ↦ Rewritten by.old by.is (names_found tree cred path p i ino (sym (write_ends tree cred path offset bytes) ∙ ends) found by.same, by.size, by.blocks)
      ]

  cut_at : (path : List ℕ) (size : ℕ) (p : WalkEnd) → ends_of tree cred (call.Trunc path size) ≡ Ok (One p) → (o : Option ℕ) → p.found ≡ o
      → Holds (call.Trunc path size) (edited_all (option_map_or (λ i. rewriting tree i moment (λ file. cut_to file size)) o []) tree)
  cut_at path size p ends None none ino new is = kept (call.Trunc path size) tree (keep_same tree) ino new is
  cut_at path size p ends (Some i) found ino new is =
      elim (after_rewriting tree i moment (λ file. cut_to file size) ino new is) [
        | inl empty ↦ Empty empty
        | inr (inl old) ↦ Same old
        | inr (inr by) ↦ Rewritten by.old by.is (names_found tree cred path p i ino (sym (trunc_ends tree cred path size) ∙ ends) found by.same, by.size, by.blocks)
      ]

  at_bytes : (c : Call) → gives_bytes g tree c ≡ true → (ends : WalkEnds) → ends_of tree cred c ≡ Ok ends → Holds c (edited_all (edits_at g tree cred n moment c ends) tree)
  at_bytes (call.Write path offset bytes) gives (One p) are = written_at path offset bytes p are p.found refl
  at_bytes (call.Write path offset bytes) gives NoPath are = kept (call.Write path offset bytes) tree (keep_same tree)
  at_bytes (call.Write path offset bytes) gives (Two p q) are = kept (call.Write path offset bytes) tree (keep_same tree)
  at_bytes (call.Trunc path size) gives (One p) are = cut_at path size p are p.found refl
  at_bytes (call.Trunc path size) gives NoPath are = kept (call.Trunc path size) tree (keep_same tree)
  at_bytes (call.Trunc path size) gives (Two p q) are = kept (call.Trunc path size) tree (keep_same tree)
  at_bytes c gives ends are = absurd (false≢true gives)

  at_ends : (c : Call) (ends : WalkEnds) → ends_of tree cred c ≡ Ok ends → Holds c (edited_all (edits_at g tree cred n moment c ends) tree)
  at_ends c ends are = elim (cases_Bool (gives_bytes g tree c)) [
    | inl gives ↦ at_bytes c gives ends are
    | inr not ↦ kept c (edited_all (edits_at g tree cred n moment c ends) tree) (edits_keep (edits_at g tree cred n moment c ends) tree (others_leave g tree cred n moment c ends not))
  ]

  pub file_after : (c : Call) (ino : ℕ) (new : FileNode) → tree_after g tree cred n moment c ino ≡ Some (File new) → FileAfter tree cred c ino new
  file_after c = after_holds (Holds c) g tree cred n moment c (kept c tree (keep_same tree)) (λ ends ends_in are go. at_ends c ends are)
