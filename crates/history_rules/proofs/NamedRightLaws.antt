-- The calls that give a new name to an inode that is no directory leave a right tree right.
use Rattle.std.proofs.Common.{◌≡◌, ◌≢◌, ◌≤◌, ◌<◌, ◌⊎◌, ℕ, ◌==◌, Bool, true, false, not, cond, List, [], ◌∷◌, Option, Some, None, Result, Ok, Err, refl, sym, ap, subst, inl, inr, ◌∙◌, arith, bytes_eq}
use Rattle.std.proofs.lemmas.Bool.{cases_Bool, and_parts, or_parts, true≢false, eqb-false, not-false}
use Rattle.std.proofs.lemmas.Bool.Decides.{leb_tells}
use Rattle.std.specs.Prelude.{is_some}
use Rattle.std.specs.List.{list_any}
use Rattle.std.specs.Option.{option_map_or}
use Rattle.lufs_base.specs.declared.geometry.Geometry.{Geometry}
use Rattle.tree_types.specs.declared.credentials.Cred.{Cred}
use Rattle.tree_types.specs.declared.call.Call.{Call}
use Rattle.tree_types.specs.declared.call.Call.TheVariants as call
use Rattle.tree_types.specs.declared.reply.Refusal.{Refusal}
use Rattle.tree_types.specs.declared.reply.Refusal.TheVariants.{Denied, Exist, Isdir, Mlink, Fbig, Noinodes, Nospace}
use Rattle.tree_types.specs.declared.reply.Reply.TheVariants as reply
use Rattle.volume_model.specs.declared.directory.Slot.{Slot}
use Rattle.volume_model.specs.Format.{inodes_of}
use Rattle.volume_model.specs.Sound.{DirectoryNode, Node, File, Directory, Link, Tree, with_node, slots_of_node, names_in_tree, is_used_in}
use Rattle.history_model.specs.Places.{lookup, slots_in_node, is_directory_in, is_directory_node, has_name, may}
use Rattle.history_model.specs.Walk.{WalkEnd, first_of}
use Rattle.history_model.specs.Ends.{WalkEnds, One, Two, ends_of}
use Rattle.history_model.specs.Edits.{entered_in, on_chunks, with_time, on_node, edited, edited_all}
use Rattle.history_model.specs.Wants.{create_wants, link_wants, symlink_wants, lacks}
use Rattle.history_model.specs.Refusals.{Decision, Refuse, Unchanged, Proceed, cannot_grow, has_no_inode, has_most_links, on_found, decision_at}
use Rattle.history_model.specs.Effects.{making, naming, on_found_inode, new_file, new_link, edits_at}
use Rattle.history_model.specs.Histories.{makes_inode, IsUsable}
use Rattle.history_model.specs.Replies.{decided_reply, decided, walked_tree, tree_after}
use Rattle.history_model.specs.Right.{IsRightWithin}
use Rattle.history_rules.proofs.NodeLaws.{with_node-here, with_node-other, on_node-here, on_node-other}
use Rattle.history_rules.proofs.NameLaws.{named, skip, takes}
use Rattle.history_rules.proofs.MakeLaws.{directory_in, rows_pass, none_of}
use Rattle.history_rules.proofs.AccountLaws.{IsIn, EndsIn, ends_in}
use Rattle.history_rules.proofs.KeptNameLaws.{names_of, right_as, time_same}
use Rattle.history_rules.proofs.EnterLaws.{all_slots, enters}
use Rattle.history_rules.proofs.SlotRuleLaws.{in_use}
use Rattle.history_rules.proofs.RightNameLaws.{directory_of, none_so}
use Rattle.history_rules.proofs.EnterRightLaws.{enter_right}

-- the call gives a new name to an inode that is no directory
abbrev pub names_no_directory : Call → Bool
names_no_directory (call.Create path mode) = true
names_no_directory (call.Link old new) = true
names_no_directory (call.Symlink text path) = true
names_no_directory other = false

-- an inode that is named is in use
pub named_used : (used : ℕ → Bool) (name : List ℕ) (i : ℕ) (xs : List Slot) → named xs name ≡ Some i → list_any (λ s. not (used s.ino)) (in_use xs) ≡ false → (i ≢ 0) × (used i ≡ true)
named_used used name i [] is none = absurd (let e : None ≡ Some i = is in cc)
named_used used name i (s ∷ xs) is none = by_name (named_used used name i xs) (cases_Bool (has_name name s)) (cases_Bool (s.ino == 0)) where
  by : Bool → Bool
  by free = list_any (λ t. not (used t.ino)) (cond (not free) (s ∷ in_use xs) (in_use xs))

  by_name : (named xs name ≡ Some i → list_any (λ t. not (used t.ino)) (in_use xs) ≡ false → (i ≢ 0) × (used i ≡ true))
      → (has_name name s ≡ true) ⊎ (has_name name s ≡ false) → ((s.ino == 0) ≡ true) ⊎ ((s.ino == 0) ≡ false) → (i ≢ 0) × (used i ≡ true)
  by_name more (inl holds) (inl free) = absurd (true≢false (sym (and_parts (not (s.ino == 0)) (bytes_eq s.name name) holds).0 ∙ ap not free))
  by_name more (inl holds) (inr taken) =
      let same : s.ino ≡ i = let e : Some s.ino ≡ Some i = sym (takes s xs name holds) ∙ is in cc in
      let parts = or_parts (not (used s.ino)) (list_any (λ t. not (used t.ino)) (in_use xs)) (sym (ap by taken) ∙ none) in
      (λ e. eqb-false s.ino 0 taken (same ∙ e), ap used (sym same) ∙ not-false (used s.ino) parts.0)
  by_name more (inr fails) (inl free) = more (sym (skip s xs name fails) ∙ is) (sym (ap by free) ∙ none)
  by_name more (inr fails) (inr taken) =
      more (sym (skip s xs name fails) ∙ is) (or_parts (not (used s.ino)) (list_any (λ t. not (used t.ino)) (in_use xs)) (sym (ap by taken) ∙ none)).1

abbrev named_by : Option Node → List ℕ → Option ℕ
named_by o name = named (option_map_or slots_in_node o []) name

-- a directory is one of the names as well
pub directory_as : (o : Option Node) → directory_of (names_of o) ≡ option_map_or is_directory_node o false
directory_as None = refl
directory_as (Some (File file)) = refl
directory_as (Some (Directory directory)) = refl
directory_as (Some (Link link)) = refl

pub used_as : (o : Option Node) → is_some (names_of o) ≡ is_some o
used_as None = refl
used_as (Some n) = refl

module _ (g : Geometry) (tree : Tree) (right : IsRightWithin g tree) where
  pub below : (k : ℕ) → is_some (tree k) ≡ true → k < inodes_of g
  below k used = elim (leb_tells (inodes_of g) k) [
    | inl (_, past) ↦ absurd (true≢false (sym used ∙ ap (λ (o : Option Node). is_some o) (right.within k past)))
    | inr (_, less) ↦ less
  ]

  pub found_used : (dir : ℕ) (d : DirectoryNode) (name : List ℕ) (i : ℕ) → tree dir ≡ Some (Directory d) → lookup tree dir name ≡ Some i → (i ≢ 0) × (is_some (tree i) ≡ true)
  found_used dir d name i there found =
      let slots = ap (λ (o : Option Node). option_map_or slots_in_node o []) there in
      let here : dir < inodes_of g = below dir (ap (λ (o : Option Node). is_some o) there) in
      let all : list_any (λ s. not (is_used_in (names_in_tree tree) s.ino)) (in_use (all_slots d.chunks)) ≡ false =
      ap (λ (o : Option Node). list_any (λ s. not (is_used_in (names_in_tree tree) s.ino)) (in_use (let slots : List Slot = option_map_or (λ s. option_map_or (λ l. l) s []) (names_of o) [] in slots))) (sym there)
      ∙ right.names.used dir here in
      let both = named_used (is_used_in (names_in_tree tree)) name i (all_slots d.chunks) (sym (ap (λ (o : Option Node). named_by o name) there) ∙ found) all in
      (both.0, sym (used_as (tree i)) ∙ both.1)

  module _ (dir i moment : ℕ) (name : List ℕ) (d : DirectoryNode) (there : tree dir ≡ Some (Directory d)) (new : lookup tree dir name ≡ None) (real : i ≢ 0) (small : i < inodes_of g)
      (other : Tree) (still : other dir ≡ Some (Directory d)) (plain : directory_of (names_of (tree i)) ≡ false) (now_plain : directory_of (names_of (other i)) ≡ false)
      (used : is_some (names_of (other i)) ≡ true) (others : (k : ℕ) → k ≢ dir → k ≢ i → other k ≡ tree k) where
    abbrev entering : Node → Node
    entering = on_chunks (λ chunks. entered_in chunks name i)

    abbrev second : Tree
    second = on_node dir entering other

    in_use_dir : dir < inodes_of g
    in_use_dir = below dir (ap (λ (o : Option Node). is_some o) there)

    apart : i ≢ dir
    apart same = true≢false (sym (ap (λ (k : ℕ). directory_of (names_of (tree k))) same ∙ ap (λ (o : Option Node). directory_of (names_of o)) there) ∙ plain)

    same_i : second i ≡ other i
    same_i = on_node-other other dir i entering apart

    second_others : (k : ℕ) → k ≢ dir → k ≢ i → second k ≡ tree k
    second_others k not_dir not_i = on_node-other other dir k entering not_dir ∙ others k not_dir not_i

    second_right : IsRightWithin g second
    second_right = record {
      names = enter_right (inodes_of g) (names_in_tree tree) (names_in_tree second) right.names dir i name (all_slots d.chunks) (all_slots (entered_in d.chunks name i)) (ap names_of there)
          (ap names_of (on_node-here other dir entering (Directory d) still)) in_use_dir (enters name i d.chunks) (none_so name (all_slots d.chunks) (sym (ap (λ (o : Option Node). named_by o name) there) ∙ new)) plain
          (ap (λ (o : Option Node). directory_of (names_of o)) same_i ∙ now_plain) (ap (λ (o : Option Node). is_some (names_of o)) same_i ∙ used) (λ k not_dir not_i. ap names_of (second_others k not_dir not_i));
      within = λ k past. second_others k (λ e. omega (arith, in_use_dir)) (λ e. omega arith) ∙ right.within k past;
    }

    pub entered_right : IsRightWithin g (on_node dir (with_time moment) second)
    entered_right = right_as g second (on_node dir (with_time moment) second) (time_same second dir moment) second_right

  making_right : (p : WalkEnd) (ino moment : ℕ) (node : Node) → is_directory_in tree p.dir ≡ true → lookup tree p.dir p.name ≡ None → slots_of_node node ≡ None → IsUsable g tree ino
      → IsRightWithin g (edited_all (making p ino moment node) tree)
  unfolding edited
  making_right p ino moment node is new plain usable =
      let there = directory_in (tree p.dir) is in
      let low : 2 ≤ ino = usable.low in
      let apart : p.dir ≢ ino = λ same. let e : Some (Directory there.0) ≡ None = sym there.1 ∙ ap tree same ∙ usable.free in cc in
      let made : names_of (with_node tree ino (Some node) ino) ≡ Some None = ap names_of (with_node-here tree ino (Some node)) ∙ ap (λ (s : Option (List Slot)). Some s) plain in
      entered_right p.dir ino moment p.name there.0 there.1 new (λ zero_is. let bad : 2 ≤ 0 = subst (λ (k : ℕ). 2 ≤ k) zero_is low in omega arith) usable.high
      (with_node tree ino (Some node)) (with_node-other tree ino p.dir (Some node) apart ∙ there.1) (ap (λ (o : Option Node). directory_of (names_of o)) usable.free) (ap directory_of made)
      (ap (λ (o : Option (Option (List Slot))). is_some o) made) (λ k not_dir not_i. with_node-other tree ino k (Some node) not_i)

  linking_right : (p q : WalkEnd) (i moment : ℕ) → is_directory_in tree p.dir ≡ true → lookup tree p.dir p.name ≡ Some i → is_directory_in tree i ≡ false
      → is_directory_in tree q.dir ≡ true → lookup tree q.dir q.name ≡ None → IsRightWithin g (edited_all (naming q i moment) tree)
  unfolding edited
  linking_right p q i moment old found plain is new =
      let from = directory_in (tree p.dir) old in
      let there = directory_in (tree q.dir) is in
      let both = found_used p.dir from.0 p.name i from.1 found in
      entered_right q.dir i moment q.name there.0 there.1 new both.0 (below i both.1) tree there.1 (directory_as (tree i) ∙ plain) (directory_as (tree i) ∙ plain) (used_as (tree i) ∙ both.1)
      (λ k not_dir not_i. refl)

  module _ (cred : Cred) (ino moment : ℕ) where
    linked_right : (p q : WalkEnd) → IsIn tree p → IsIn tree q → (found : Option ℕ) → p.found ≡ found
        → first_of (on_found found (λ i. (not (may tree cred q.dir 2), Refuse Denied) ∷ ((is_some q.found, Refuse Exist) ∷ ((is_directory_in tree i, Refuse Isdir) ∷ ((has_most_links g tree i, Refuse Mlink)
        ∷ ((cannot_grow tree q.dir q.name, Refuse Fbig) ∷ ((lacks g tree (link_wants tree q), Refuse Nospace) ∷ []))))))) Proceed ≡ Proceed
        → IsRightWithin g (edited_all (on_found_inode found (λ i. naming q i moment)) tree)
    linked_right p q in_p in_q None is go = right
    linked_right p q in_p in_q (Some i) is go =
        let none = rows_pass ((not (may tree cred q.dir 2), Denied) ∷ ((is_some q.found, Exist) ∷ ((is_directory_in tree i, Isdir) ∷ ((has_most_links g tree i, Mlink)
        ∷ ((cannot_grow tree q.dir q.name, Fbig) ∷ ((lacks g tree (link_wants tree q), Nospace) ∷ [])))))) (ap (λ (d : Decision). decided_reply d reply.Done) go) in
        linking_right p q i moment in_p.0 (in_p.1 ∙ is) none.1.1.1.0 in_q.0 (in_q.1 ∙ none_of q.found none.1.1.0)

    at_right : (c : Call) (ends : WalkEnds) → names_no_directory c ≡ true → (makes_inode c ≡ true → IsUsable g tree ino) → EndsIn tree ends → decision_at g tree cred c ends ≡ Proceed
        → IsRightWithin g (edited_all (edits_at g tree cred ino moment c ends) tree)
    unfolding decision_at
    at_right (call.Create path mode) (One p) names usable is go =
        let none = rows_pass ((not (may tree cred p.dir 2), Denied) ∷ ((is_some p.found, Exist) ∷ ((cannot_grow tree p.dir p.name, Fbig) ∷ ((has_no_inode g tree, Noinodes)
        ∷ ((lacks g tree (create_wants tree p), Nospace) ∷ []))))) (ap (λ (d : Decision). decided_reply d reply.Done) go) in
        making_right p ino moment (new_file cred mode moment) is.0 (is.1 ∙ none_of p.found none.1.1.0) refl (usable refl)
    at_right (call.Create path mode) ends names usable is go = right
    at_right (call.Symlink text path) (One p) names usable is go =
        let none = rows_pass ((not (may tree cred p.dir 2), Denied) ∷ ((is_some p.found, Exist) ∷ ((cannot_grow tree p.dir p.name, Fbig) ∷ ((has_no_inode g tree, Noinodes)
        ∷ ((lacks g tree (symlink_wants tree p), Nospace) ∷ []))))) (ap (λ (d : Decision). decided_reply d reply.Done) go) in
        making_right p ino moment (new_link cred moment text) is.0 (is.1 ∙ none_of p.found none.1.1.0) refl (usable refl)
    at_right (call.Symlink text path) ends names usable is go = right
    at_right (call.Link old new) (Two p q) names usable is go = linked_right p q is.0 is.1 p.found refl go
    at_right (call.Link old new) ends names usable is go = right
    at_right c ends names usable is go = absurd (true≢false (sym names))

    walked_right : (c : Call) (ends : Result WalkEnds Refusal) → names_no_directory c ≡ true → (makes_inode c ≡ true → IsUsable g tree ino)
        → (let P : Type 0 = elim ends [ Ok e ↦ EndsIn tree e | Err why ↦ Unit {0} ] in P) → IsRightWithin g (walked_tree g tree cred ino moment c ends)
    walked_right c (Err why) names usable is = right
    walked_right c (Ok ends) names usable is = by_decision (decision_at g tree cred c ends) refl where
      by_decision : (d : Decision) → decision_at g tree cred c ends ≡ d → IsRightWithin g (decided d tree (edited_all (edits_at g tree cred ino moment c ends) tree))
      by_decision (Refuse why) go = right
      by_decision Unchanged go = right
      by_decision Proceed go = at_right c ends names usable is go

pub right_named : (g : Geometry) (tree : Tree) (cred : Cred) (ino moment : ℕ) (c : Call) → names_no_directory c ≡ true → (makes_inode c ≡ true → IsUsable g tree ino) → IsRightWithin g tree
    → IsRightWithin g (tree_after g tree cred ino moment c)
unfolding tree_after
right_named g tree cred ino moment c names usable right = walked_right g tree right cred ino moment c (ends_of tree cred c) names usable (ends_in tree cred c)
