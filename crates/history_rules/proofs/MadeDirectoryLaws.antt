-- The call that makes a directory leaves a right tree right.
use Rattle.std.proofs.Common.{◌≡◌, ◌≢◌, ◌≤◌, ◌<◌, ℕ, true, not, List, [], ◌∷◌, Option, Some, None, Result, Ok, Err, refl, sym, ap, subst, ◌∙◌, arith}
use Rattle.std.specs.Prelude.{is_some}
use Rattle.lufs_base.specs.declared.geometry.Geometry.{Geometry}
use Rattle.tree_types.specs.declared.credentials.Cred.{Cred}
use Rattle.tree_types.specs.declared.call.Call.TheVariants as call
use Rattle.tree_types.specs.declared.reply.Refusal.{Refusal}
use Rattle.tree_types.specs.declared.reply.Refusal.TheVariants.{Denied, Exist, Mlink, Fbig, Noinodes, Nospace}
use Rattle.tree_types.specs.declared.reply.Reply.TheVariants as reply
use Rattle.volume_model.specs.Format.{inodes_of}
use Rattle.volume_model.specs.Sound.{DirectoryNode, Node, Directory, Tree, with_node, names_in_tree}
use Rattle.history_model.specs.Places.{lookup, is_directory_in, may}
use Rattle.history_model.specs.Walk.{WalkEnd}
use Rattle.history_model.specs.Ends.{WalkEnds, One, ends_of}
use Rattle.history_model.specs.Edits.{entered_in, on_chunks, with_time, on_node, edited, edited_all}
use Rattle.history_model.specs.Wants.{mkdir_wants, lacks}
use Rattle.history_model.specs.Refusals.{Decision, Refuse, Unchanged, Proceed, cannot_grow, has_no_inode, has_most_links, decision_at}
use Rattle.history_model.specs.Effects.{making, new_subdirectory, edits_at}
use Rattle.history_model.specs.Histories.{IsUsable}
use Rattle.history_model.specs.Replies.{decided_reply, decided, walked_tree, tree_after}
use Rattle.history_model.specs.Right.{IsRightWithin}
use Rattle.history_rules.proofs.NodeLaws.{with_node-here, with_node-other, on_node-here, on_node-other}
use Rattle.history_rules.proofs.MakeLaws.{directory_in, rows_pass, none_of}
use Rattle.history_rules.proofs.AccountLaws.{EndsIn, ends_in}
use Rattle.history_rules.proofs.KeptNameLaws.{names_of, right_as, time_same}
use Rattle.history_rules.proofs.EnterLaws.{all_slots, enters}
use Rattle.history_rules.proofs.NamedRightLaws.{below}
use Rattle.history_rules.proofs.RemovedRightLaws.{named_by}
use Rattle.history_rules.proofs.NewDirectoryLaws.{made_right}

module _ (g : Geometry) (tree : Tree) (right : IsRightWithin g tree) (cred : Cred) (ino moment : ℕ) (path : List ℕ) (mode : ℕ) (usable : IsUsable g tree ino) where
  making_right : (p : WalkEnd) → is_directory_in tree p.dir ≡ true → lookup tree p.dir p.name ≡ None → IsRightWithin g (edited_all (making p ino moment (new_subdirectory cred mode moment ino p.dir)) tree)
  unfolding edited
  making_right p is new =
      let there = directory_in (tree p.dir) is in
      let d : DirectoryNode = there.0 in
      let node : Node = new_subdirectory cred mode moment ino p.dir in
      let entering : Node → Node = on_chunks (λ chunks. entered_in chunks p.name ino) in
      let first : Tree = with_node tree ino (Some node) in
      let second : Tree = on_node p.dir entering first in
      let low : 2 ≤ ino = usable.low in
      let high : ino < inodes_of g = usable.high in
      let real : ino ≢ 0 = λ zero_is. (let bad : 2 ≤ 0 = subst (λ (k : ℕ). 2 ≤ k) zero_is low in omega arith) in
      let apart : p.dir ≢ ino = λ same. (let e : Some (Directory d) ≡ None = sym there.1 ∙ ap tree same ∙ usable.free in cc) in
      let in_use_dir : p.dir < inodes_of g = below g tree right p.dir (ap (λ (o : Option Node). is_some o) there.1) in
      let still : first p.dir ≡ Some (Directory d) = with_node-other tree ino p.dir (Some node) apart ∙ there.1 in
      let others : (k : ℕ) → k ≢ p.dir → k ≢ ino → second k ≡ tree k = λ k not_dir not_i. on_node-other first p.dir k entering not_dir ∙ with_node-other tree ino k (Some node) not_i in
      let made : second ino ≡ Some node = on_node-other first p.dir ino entering (λ e. apart (sym e)) ∙ with_node-here tree ino (Some node) in
      let second_right : IsRightWithin g second = record {
        names = made_right (inodes_of g) (names_in_tree tree) right.names p.dir ino p.name (all_slots d.chunks) (all_slots (entered_in d.chunks p.name ino)) (ap names_of there.1) in_use_dir
            (enters p.name ino d.chunks) (sym (ap (λ (o : Option Node). named_by o p.name) there.1) ∙ new) real high (ap names_of usable.free) (names_in_tree second)
            (ap names_of (on_node-here first p.dir entering (Directory d) still)) (ap names_of made) (λ k not_dir not_i. ap names_of (others k not_dir not_i));
        within = λ k past. others k (λ e. omega arith) (λ e. omega arith) ∙ right.within k past;
      } in
      right_as g second (on_node p.dir (with_time moment) second) (time_same second p.dir moment) second_right

  at_right : (ends : WalkEnds) → EndsIn tree ends → decision_at g tree cred (call.Mkdir path mode) ends ≡ Proceed → IsRightWithin g (edited_all (edits_at g tree cred ino moment (call.Mkdir path mode) ends) tree)
  unfolding decision_at
  at_right (One p) is go =
      let none = rows_pass ((not (may tree cred p.dir 2), Denied) ∷ ((is_some p.found, Exist) ∷ ((has_most_links g tree p.dir, Mlink) ∷ ((cannot_grow tree p.dir p.name, Fbig) ∷ ((has_no_inode g tree, Noinodes)
      ∷ ((lacks g tree (mkdir_wants tree p), Nospace) ∷ [])))))) (ap (λ (d : Decision). decided_reply d reply.Done) go) in
      making_right p is.0 (is.1 ∙ none_of p.found none.1.1.0)
  at_right ends is go = right

  walked_right : (ends : Result WalkEnds Refusal) → (let P : Type 0 = elim ends [ Ok e ↦ EndsIn tree e | Err why ↦ Unit {0} ] in P) → IsRightWithin g (walked_tree g tree cred ino moment (call.Mkdir path mode) ends)
  walked_right (Err why) is = right
  walked_right (Ok ends) is = by_decision (decision_at g tree cred (call.Mkdir path mode) ends) refl where
    by_decision : (d : Decision) → decision_at g tree cred (call.Mkdir path mode) ends ≡ d → IsRightWithin g (decided d tree (edited_all (edits_at g tree cred ino moment (call.Mkdir path mode) ends) tree))
    by_decision (Refuse why) go = right
    by_decision Unchanged go = right
    by_decision Proceed go = at_right ends is go

pub right_made : (g : Geometry) (tree : Tree) (cred : Cred) (ino moment : ℕ) (path : List ℕ) (mode : ℕ) → IsUsable g tree ino → IsRightWithin g tree
    → IsRightWithin g (tree_after g tree cred ino moment (call.Mkdir path mode))
unfolding tree_after
right_made g tree cred ino moment path mode usable right =
    walked_right g tree right cred ino moment path mode usable (ends_of tree cred (call.Mkdir path mode)) (ends_in tree cred (call.Mkdir path mode))
