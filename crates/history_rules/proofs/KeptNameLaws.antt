-- The calls that change no name leave a right tree right.
use Rattle.std.proofs.Common.{◌≡◌, ℕ, Bool, true, false, List, [], ◌∷◌, Option, Some, None, Result, Ok, Err, refl, sym, ap, subst, inl, inr, ◌∙◌, option_map}
use Rattle.std.specs.Option.{option_map_or}
use Rattle.lufs_base.specs.declared.geometry.Geometry.{Geometry}
use Rattle.tree_types.specs.declared.credentials.Cred.{Cred}
use Rattle.tree_types.specs.declared.call.Call.{Call}
use Rattle.tree_types.specs.declared.call.Call.TheVariants as call
use Rattle.tree_types.specs.declared.reply.Refusal.{Refusal}
use Rattle.volume_model.specs.declared.directory.Slot.{Slot}
use Rattle.volume_model.specs.Format.{inodes_of}
use Rattle.volume_model.specs.Sound.{Attributes, FileNode, Node, File, Directory, Link, Tree, Names, MakeATree, with_node, slots_of_node, names_in_tree}
use Rattle.history_model.specs.Places.{attributes_in, file_in, file_of}
use Rattle.history_model.specs.Ends.{WalkEnds, One, ends_of}
use Rattle.history_model.specs.FileBytes.{written, cut_to}
use Rattle.history_model.specs.Edits.{SetAttributes, SetFile, SetTime, with_attributes, with_time, on_node, edited, edited_all}
use Rattle.history_model.specs.Effects.{changing, rewriting, on_found_inode, edits_at}
use Rattle.history_model.specs.Refusals.{Decision, Refuse, Unchanged, Proceed, decision_at}
use Rattle.history_model.specs.Replies.{decided, walked_tree, tree_after}
use Rattle.history_model.specs.Right.{IsRightWithin}
use Rattle.history_rules.proofs.NodeLaws.{with_node-here, with_node-other}
use Rattle.history_rules.proofs.TotalLaws.{same_or_not}

-- the call may change which names there are
abbrev pub changes_names : Call → Bool
changes_names (call.Create path mode) = true
changes_names (call.Mkdir path mode) = true
changes_names (call.Link old new) = true
changes_names (call.Symlink text path) = true
changes_names (call.Rename old new) = true
changes_names (call.Remove path) = true
changes_names (call.Rmdir path) = true
changes_names other = false

-- what there is of names in an inode
abbrev pub names_of : Option Node → Option (Option (List Slot))
names_of o = option_map slots_of_node o

-- the two trees have the same names
abbrev pub SameNames : (tree other : Tree) → Type 0
SameNames tree other = (k : ℕ) → names_of (tree k) ≡ names_of (other k)

pub with_same : (tree : Tree) (i : ℕ) (node : Option Node) → names_of node ≡ names_of (tree i) → SameNames (with_node tree i node) tree
with_same tree i node same k = elim (same_or_not k i) [
  | inl is ↦
      ap (λ (j : ℕ). names_of (with_node tree i node j)) is ∙ ap names_of (with_node-here tree i node) ∙ same
      ∙ sym (ap (λ (j : ℕ). names_of (tree j)) is)
  | inr apart ↦ ap names_of (with_node-other tree i k node apart)
]

pub on_same : (tree : Tree) (i : ℕ) (f : Node → Node) → ((n : Node) → slots_of_node (f n) ≡ slots_of_node n) → SameNames (on_node i f tree) tree
on_same tree i f keeps = by_node (tree i) refl where
  by_node : (o : Option Node) → tree i ≡ o → SameNames (elim o [ None ↦ tree | Some node ↦ with_node tree i (Some (f node)) ]) tree
  by_node None is = λ k. refl
  by_node (Some n) is = with_same tree i (Some (f n)) (ap (λ (s : Option (List Slot)). Some s) (keeps n) ∙ sym (ap names_of is))

attributes_same : (a : Attributes) (n : Node) → slots_of_node (with_attributes a n) ≡ slots_of_node n
attributes_same a (File file) = refl
attributes_same a (Directory directory) = refl
attributes_same a (Link link) = refl

-- another time changes no name
pub time_same : (tree : Tree) (i moment : ℕ) → SameNames (on_node i (with_time moment) tree) tree
time_same tree i moment = on_same tree i (with_time moment) (λ n. attributes_same (record (attributes_in n) { mtime = moment }) n)

-- what holds of names holds of trees that have them
pub free_as : (o : Option Node) → names_of o ≡ None → o ≡ None
free_as None is = refl
free_as (Some n) is = absurd (let e : Some (slots_of_node n) ≡ None = is in cc)

pub right_as : (g : Geometry) (tree other : Tree) → SameNames other tree → IsRightWithin g tree → IsRightWithin g other
right_as g tree other same right =
    let alike : names_in_tree other ≡ names_in_tree tree = λ t k. same k t in
    record {
      names = subst (λ (m : Names). MakeATree (inodes_of g) m) (sym alike) right.names;
      within = λ i past. free_as (other i) (same i ∙ ap names_of (right.within i past));
    }

module _ (g : Geometry) (tree : Tree) (cred : Cred) (ino moment : ℕ) where
  changing_same : (f : Attributes → Attributes) (found : Option ℕ) → SameNames (edited_all (on_found_inode found (λ i. changing tree i f)) tree) tree
  unfolding edited
  changing_same f None = λ k. refl
  changing_same f (Some i) = by_node (tree i) where
    by_node : (o : Option Node) → SameNames (edited_all (option_map_or (λ node. SetAttributes i (f (attributes_in node)) ∷ []) o []) tree) tree
    by_node None = λ k. refl
    by_node (Some node) = on_same tree i (with_attributes (f (attributes_in node))) (attributes_same (f (attributes_in node)))

  file_names : (o : Option Node) (file other : FileNode) → option_map_or file_of o None ≡ Some file → names_of (Some (File other)) ≡ names_of o
  file_names None file other is = absurd (let e : None ≡ Some file = is in cc)
  file_names (Some (File found)) file other is = refl
  file_names (Some (Directory directory)) file other is = absurd (let e : None ≡ Some file = is in cc)
  file_names (Some (Link link)) file other is = absurd (let e : None ≡ Some file = is in cc)

  rewriting_same : (f : FileNode → FileNode) (found : Option ℕ) → SameNames (edited_all (on_found_inode found (λ i. rewriting tree i moment f)) tree) tree
  unfolding edited
  rewriting_same f None = λ k. refl
  rewriting_same f (Some i) = by_file (file_in tree i) refl where
    by_file : (o : Option FileNode) → file_in tree i ≡ o → SameNames (edited_all (option_map_or (λ file. SetFile i (f file) ∷ (SetTime i moment ∷ [])) o []) tree) tree
    by_file None is = λ k. refl
    by_file (Some file) is = λ k.
        time_same (with_node tree i (Some (File (f file)))) i moment k
        ∙ with_same tree i (Some (File (f file))) (file_names (tree i) file (f file) is) k

  pub at_same : (c : Call) (ends : WalkEnds) → changes_names c ≡ false → SameNames (edited_all (edits_at g tree cred ino moment c ends) tree) tree
  at_same (call.Create path mode) ends is = absurd (let e : true ≡ false = is in cc)
  at_same (call.Mkdir path mode) ends is = absurd (let e : true ≡ false = is in cc)
  at_same (call.Link old new) ends is = absurd (let e : true ≡ false = is in cc)
  at_same (call.Symlink text path) ends is = absurd (let e : true ≡ false = is in cc)
  at_same (call.Rename old new) ends is = absurd (let e : true ≡ false = is in cc)
  at_same (call.Remove path) ends is = absurd (let e : true ≡ false = is in cc)
  at_same (call.Rmdir path) ends is = absurd (let e : true ≡ false = is in cc)
  at_same (call.Chmod path mode) (One p) is = changing_same (λ a. record a { rights = mode }) p.found
  at_same (call.Chown path uid gid) (One p) is = changing_same (λ a. record a { uid = uid; gid = gid }) p.found
  at_same (call.Write path offset bytes) (One p) is = rewriting_same (λ file. written file offset bytes) p.found
  at_same (call.Trunc path size) (One p) is = rewriting_same (λ file. cut_to file size) p.found
  at_same c ends is = λ k. refl

  walked_same : (c : Call) (ends : Result WalkEnds Refusal) → changes_names c ≡ false → SameNames (walked_tree g tree cred ino moment c ends) tree
  walked_same c (Err why) is = λ k. refl
  walked_same c (Ok ends) is = by_decision (decision_at g tree cred c ends) where
    by_decision : (d : Decision) → SameNames (decided d tree (edited_all (edits_at g tree cred ino moment c ends) tree)) tree
    by_decision (Refuse why) = λ k. refl
    by_decision Unchanged = λ k. refl
    by_decision Proceed = at_same c ends is

  after_same : (c : Call) → changes_names c ≡ false → SameNames (tree_after g tree cred ino moment c) tree
  unfolding tree_after
  after_same c is = walked_same c (ends_of tree cred c) is

pub right_kept : (g : Geometry) (tree : Tree) (cred : Cred) (ino moment : ℕ) (c : Call) → changes_names c ≡ false → IsRightWithin g tree → IsRightWithin g (tree_after g tree cred ino moment c)
right_kept g tree cred ino moment c is right = right_as g tree (tree_after g tree cred ino moment c) (after_same g tree cred ino moment c is) right
