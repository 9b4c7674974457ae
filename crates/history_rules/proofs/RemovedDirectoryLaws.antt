-- The call that removes an empty directory leaves a right tree right.
use Rattle.std.proofs.Common.{◌≡◌, ◌≢◌, ◌<◌, ℕ, ◌==◌, Bool, true, false, not, ◌&&◌, ◌||◌, cond, List, [], ◌∷◌, length, Option, Some, None, Result, Ok, Err, refl, sym, ap, subst, inl, inr, ◌∙◌, arith}
use Rattle.std.proofs.lemmas.Bool.{cases_Bool, or_parts, true≢false, eqb-true, not-false}
use Rattle.std.proofs.lemmas.Slice.Eq.{bytes_eq-Decides}
use Rattle.std.specs.Prelude.{is_some, bytes_eq}
use Rattle.std.specs.List.{filter}
use Rattle.std.specs.Option.{option_map_or}
use Rattle.lufs_base.specs.declared.geometry.Geometry.{Geometry}
use Rattle.tree_types.specs.declared.credentials.Cred.{Cred}
use Rattle.tree_types.specs.declared.call.Call.TheVariants as call
use Rattle.tree_types.specs.declared.reply.Refusal.{Refusal}
use Rattle.tree_types.specs.declared.reply.Refusal.TheVariants.{Notdir, Denied, Notempty, Inval}
use Rattle.tree_types.specs.declared.reply.Reply.TheVariants as reply
use Rattle.volume_model.specs.declared.directory.Slot.{Slot}
use Rattle.volume_model.specs.Format.{inodes_of}
use Rattle.volume_model.specs.Sound.{DirectoryNode, Node, Directory, Tree, with_node, names_in_tree, entries_at, dot, dot_dot}
use Rattle.history_model.specs.Places.{lookup, entries_in, is_directory_in, is_dots, links_in, may}
use Rattle.history_model.specs.Walk.{WalkEnd, first_of}
use Rattle.history_model.specs.Ends.{WalkEnds, One, ends_of}
use Rattle.history_model.specs.Edits.{taken_out_of, on_chunks, with_time, on_node, Drop, edited, edited_all}
use Rattle.history_model.specs.Refusals.{Decision, Refuse, Unchanged, Proceed, on_found, is_empty_in, decision_at}
use Rattle.history_model.specs.Effects.{losing, removing, on_found_inode, edits_at}
use Rattle.history_model.specs.Replies.{decided_reply, decided, walked_tree, tree_after}
use Rattle.history_model.specs.Right.{IsRightWithin}
use Rattle.history_rules.proofs.NodeLaws.{with_node-here, with_node-other, on_node-here, on_node-other}
use Rattle.history_rules.proofs.NameLaws.{named}
use Rattle.history_rules.proofs.MakeLaws.{directory_in, rows_pass}
use Rattle.history_rules.proofs.AccountLaws.{IsIn, EndsIn, ends_in}
use Rattle.history_rules.proofs.KeptNameLaws.{names_of, right_as, time_same}
use Rattle.history_rules.proofs.EnterLaws.{all_slots}
use Rattle.history_rules.proofs.RightNameLaws.{slots_from}
use Rattle.history_rules.proofs.NamedRightLaws.{below, found_used, directory_as}
use Rattle.history_rules.proofs.RemovedRightLaws.{named_by, slots_as, with_alike}
use Rattle.history_rules.proofs.LeaveLaws.{leaves}
use Rattle.history_rules.proofs.DroppedRightLaws.{apart, drop_right}

-- two tests in turn are both at once
filter_both : (p q : Slot → Bool) (xs : List Slot) → filter q (filter p xs) ≡ filter (λ x. p x && q x) xs
filter_both p q [] = refl
filter_both p q (x ∷ xs) =
    let inner : Bool → List Slot = λ b. filter q (cond b (x ∷ filter p xs) (filter p xs)) in
    let outer : Bool → List Slot = λ b. cond (b && q x) (x ∷ filter (λ y. p y && q y) xs) (filter (λ y. p y && q y) xs) in
    elim (cases_Bool (p x)) [
      | inl holds ↦ ap inner holds ∙ ap (λ (l : List Slot). cond (q x) (x ∷ l) l) (filter_both p q xs) ∙ sym (ap outer holds)
      | inr fails ↦ ap inner fails ∙ filter_both p q xs ∙ sym (ap outer fails)
    ]

-- the entries of a directory are those of the names
pub entries_as : (tree : Tree) (i : ℕ) → entries_at (names_in_tree tree) i ≡ entries_in tree i
entries_as tree i =
    filter_both (λ (s : Slot). not (s.ino == 0)) (λ s. not (is_dots s.name)) (slots_from (names_of (tree i)))
    ∙ ap (λ (slots : List Slot). filter (λ s. not (s.ino == 0) && not (is_dots s.name)) slots) (slots_as (tree i))

pub not_dots : (name : List ℕ) → is_dots name ≡ false → (name ≢ dot) × (name ≢ dot_dot)
not_dots name is =
    let parts = or_parts (bytes_eq name dot) (bytes_eq name dot_dot) is in
    (λ e. true≢false (sym ((bytes_eq-Decides name dot).1 e) ∙ parts.0), λ e. true≢false (sym ((bytes_eq-Decides name dot_dot).1 e) ∙ parts.1))

module _ (g : Geometry) (tree : Tree) (right : IsRightWithin g tree) where
  module _ (dir i moment : ℕ) (name : List ℕ) (d : DirectoryNode) (there : tree dir ≡ Some (Directory d)) (found : lookup tree dir name ≡ Some i) (is_dir : is_directory_in tree i ≡ true)
      (empty : is_empty_in tree i ≡ true) (other : is_dots name ≡ false) where
    abbrev leaving : Node → Node
    leaving = on_chunks (λ chunks. taken_out_of chunks name)

    abbrev second : Tree
    second = on_node dir leaving tree

    abbrev dropped : Tree
    dropped = with_node second i None

    in_use_dir : dir < inodes_of g
    in_use_dir = below g tree right dir (ap (λ (o : Option Node). is_some o) there)

    in_use_i : i < inodes_of g
    in_use_i = below g tree right i (found_used g tree right dir d name i there found).1

    named_here : named (all_slots d.chunks) name ≡ Some i
    named_here = sym (ap (λ (o : Option Node). named_by o name) there) ∙ found

    nothing_in : length (entries_at (names_in_tree tree) i) ≡ 0
    nothing_in = ap length (entries_as tree i) ∙ eqb-true (length (entries_in tree i)) 0 empty

    differ : i ≢ dir
    differ =
        apart (inodes_of g) (names_in_tree tree) right.names dir i name (all_slots d.chunks) (all_slots (taken_out_of d.chunks name)) (ap names_of there) in_use_dir (leaves name i d.chunks named_here)
        (not_dots name other).0 (not_dots name other).1 (directory_as (tree i) ∙ is_dir) in_use_i nothing_in

    dropped_dir : dropped dir ≡ Some (leaving (Directory d))
    dropped_dir = with_node-other second i dir None (λ e. differ (sym e)) ∙ on_node-here tree dir leaving (Directory d) there

    dropped_others : (k : ℕ) → k ≢ dir → k ≢ i → dropped k ≡ tree k
    dropped_others k not_dir not_i = with_node-other second i k None not_i ∙ on_node-other tree dir k leaving not_dir

    dropped_right : IsRightWithin g dropped
    dropped_right = record {
      names = drop_right (inodes_of g) (names_in_tree tree) right.names dir i name (all_slots d.chunks) (all_slots (taken_out_of d.chunks name)) (ap names_of there) in_use_dir
          (leaves name i d.chunks named_here) (not_dots name other).0 (not_dots name other).1 (directory_as (tree i) ∙ is_dir) in_use_i nothing_in (names_in_tree dropped)
          (ap names_of dropped_dir) (ap names_of (with_node-here second i None)) (λ k not_dir not_i. ap names_of (dropped_others k not_dir not_i));
      within = λ k past. dropped_others k (λ e. omega (arith, in_use_dir)) (λ e. omega (arith, in_use_i)) ∙ right.within k past;
    }

    emptied_right : IsRightWithin g (edited_all (losing g tree i) (on_node dir (with_time moment) second))
    unfolding edited
    emptied_right =
        let third : Tree = on_node dir (with_time moment) second in
        let by : Bool → Tree = λ b. edited_all (option_map_or (λ lost. Drop lost ∷ []) (cond (b || links_in g tree i == 1) (Some i) None) []) third in
        subst (λ (b : Bool). IsRightWithin g (by b)) (sym is_dir) (right_as g dropped (with_node third i None) (with_alike third second i None (time_same second dir moment)) dropped_right)

  removing_right : (p : WalkEnd) (i moment : ℕ) → is_directory_in tree p.dir ≡ true → lookup tree p.dir p.name ≡ Some i → is_directory_in tree i ≡ true → is_empty_in tree i ≡ true → is_dots p.name ≡ false
      → IsRightWithin g (edited_all (removing g tree p i moment) tree)
  unfolding edited
  removing_right p i moment is found is_dir empty other =
      let there = directory_in (tree p.dir) is in
      emptied_right p.dir i moment p.name there.0 there.1 found is_dir empty other

  module _ (cred : Cred) (ino moment : ℕ) (path : List ℕ) where
    removed_right : (p : WalkEnd) → IsIn tree p → (found : Option ℕ) → p.found ≡ found
        → first_of (on_found found (λ i. (not (is_directory_in tree i), Refuse Notdir) ∷ ((not (may tree cred p.dir 2), Refuse Denied) ∷ ((not (is_empty_in tree i), Refuse Notempty) ∷ ((is_dots p.name, Refuse Inval) ∷ []))))) Proceed ≡ Proceed
        → IsRightWithin g (edited_all (on_found_inode found (λ i. removing g tree p i moment)) tree)
    removed_right p is None found go = right
    removed_right p is (Some i) found go =
        let none = rows_pass ((not (is_directory_in tree i), Notdir) ∷ ((not (may tree cred p.dir 2), Denied) ∷ ((not (is_empty_in tree i), Notempty) ∷ ((is_dots p.name, Inval) ∷ []))))
        (ap (λ (d : Decision). decided_reply d reply.Done) go) in
        removing_right p i moment is.0 (is.1 ∙ found) (not-false (is_directory_in tree i) none.1.0) (not-false (is_empty_in tree i) none.1.1.1.0) none.1.1.1.1.0

    at_right : (ends : WalkEnds) → EndsIn tree ends → decision_at g tree cred (call.Rmdir path) ends ≡ Proceed → IsRightWithin g (edited_all (edits_at g tree cred ino moment (call.Rmdir path) ends) tree)
    unfolding decision_at
    at_right (One p) is go = removed_right p is p.found refl go
    at_right ends is go = right

    walked_right : (ends : Result WalkEnds Refusal) → (let P : Type 0 = elim ends [ Ok e ↦ EndsIn tree e | Err why ↦ Unit {0} ] in P) → IsRightWithin g (walked_tree g tree cred ino moment (call.Rmdir path) ends)
    walked_right (Err why) is = right
    walked_right (Ok ends) is = by_decision (decision_at g tree cred (call.Rmdir path) ends) refl where
      by_decision : (d : Decision) → decision_at g tree cred (call.Rmdir path) ends ≡ d → IsRightWithin g (decided d tree (edited_all (edits_at g tree cred ino moment (call.Rmdir path) ends) tree))
      by_decision (Refuse why) go = right
      by_decision Unchanged go = right
      by_decision Proceed go = at_right ends is go

pub right_emptied : (g : Geometry) (tree : Tree) (cred : Cred) (ino moment : ℕ) (path : List ℕ) → IsRightWithin g tree → IsRightWithin g (tree_after g tree cred ino moment (call.Rmdir path))
unfolding tree_after
right_emptied g tree cred ino moment path right = walked_right g tree right cred ino moment path (ends_of tree cred (call.Rmdir path)) (ends_in tree cred (call.Rmdir path))
