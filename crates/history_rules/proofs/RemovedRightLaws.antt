-- The call that removes a name of a file or link leaves a right tree right.
use Rattle.std.proofs.Common.{◌≡◌, ◌≢◌, ◌≤◌, ◌<◌, ◌⊎◌, ℕ, zero, suc, ◌+◌, ◌==◌, Bool, true, false, not, ◌||◌, cond, List, [], ◌∷◌, Option, Some, None, Result, Ok, Err, refl, sym, ap, subst, inl, inr, ◌∙◌, arith, sum_by}
use Rattle.std.proofs.lemmas.Bool.{cases_Bool, cases_eq, true≢false, eqb-true, eq-eqb}
use Rattle.std.proofs.lemmas.List.Sums.{sum_by-cons}
use Rattle.std.specs.Prelude.{is_some}
use Rattle.std.specs.List.{range_with_len}
use Rattle.std.specs.Option.{option_map_or}
use Rattle.lufs_base.specs.declared.geometry.Geometry.{Geometry}
use Rattle.tree_types.specs.declared.credentials.Cred.{Cred}
use Rattle.tree_types.specs.declared.reply.Refusal.{Refusal}
use Rattle.tree_types.specs.declared.reply.Refusal.TheVariants.{Denied, Isdir}
use Rattle.tree_types.specs.declared.call.Call.TheVariants as call
use Rattle.tree_types.specs.declared.reply.Reply.TheVariants as reply
use Rattle.volume_model.specs.Format.{inodes_of}
use Rattle.volume_model.specs.Sound.{DirectoryNode, Node, File, Directory, Link, Tree, with_node, names_in_tree, slots_at}
use Rattle.history_model.specs.Places.{lookup, slots_in_node, is_directory_in, links_in, may}
use Rattle.history_model.specs.Walk.{WalkEnd, first_of}
use Rattle.history_model.specs.Ends.{WalkEnds, One, ends_of}
use Rattle.history_model.specs.Edits.{taken_out_of, on_chunks, with_time, on_node, Drop, edited, edited_all}
use Rattle.history_model.specs.Refusals.{Decision, Refuse, Unchanged, Proceed, on_found, decision_at}
use Rattle.history_model.specs.Effects.{losing, removing, on_found_inode, edits_at}
use Rattle.history_model.specs.Replies.{decided_reply, decided, walked_tree, tree_after}
use Rattle.history_model.specs.Right.{IsRightWithin}
use Rattle.history_rules.proofs.NodeLaws.{with_node-here, with_node-other, on_node-here, on_node-other}
use Rattle.history_rules.proofs.NameLaws.{named}
use Rattle.history_rules.proofs.MakeLaws.{directory_in, rows_pass}
use Rattle.history_rules.proofs.TotalLaws.{weight_in, total, total-on_node}
use Rattle.history_rules.proofs.AccountLaws.{IsIn, EndsIn, ends_in}
use Rattle.history_rules.proofs.LinkLaws.{names_in, free_names_none, total-links}
use Rattle.history_rules.proofs.KeptNameLaws.{names_of, SameNames, right_as, time_same}
use Rattle.history_rules.proofs.EnterLaws.{all_slots, slot_sum}
use Rattle.history_rules.proofs.SlotRuleLaws.{of_inode, one_if}
use Rattle.history_rules.proofs.RightNameLaws.{directory_of, slots_from}
use Rattle.history_rules.proofs.NamedRightLaws.{below, found_used, directory_as, used_as}
use Rattle.history_rules.proofs.LeaveLaws.{leaves, leaves-sum}
use Rattle.history_rules.proofs.LeaveRightLaws.{leave_right}

abbrev pub named_by : Option Node → List ℕ → Option ℕ
named_by o name = named (option_map_or slots_in_node o []) name

pub slots_as : (o : Option Node) → slots_from (names_of o) ≡ option_map_or slots_in_node o []
slots_as None = refl
slots_as (Some (File file)) = refl
slots_as (Some (Directory directory)) = refl
slots_as (Some (Link link)) = refl

-- a sum of nothing has no part
pub none_at : (f : ℕ → ℕ) (len a k : ℕ) → sum_by f (range_with_len a len) ≡ 0 → a ≤ k → k < a + len → f k ≡ 0
none_at f zero a k none low high = absurd (omega arith)
none_at f (suc len) a k none low high =
    let at = sum_by-cons f a (range_with_len (a + 1) len) in
    elim (cases_eq a k) [
      | inl same ↦ let here : f a ≡ 0 = omega (arith, at, none) in ap f (sym same) ∙ here
      | inr apart ↦ none_at f len (a + 1) k (omega (arith, at, none)) (omega arith) (omega arith)
    ]

pub weight_slots : (i : ℕ) (o : Option Node) → weight_in (names_in i) o ≡ slot_sum (of_inode i) (slots_from (names_of o))
weight_slots i None = refl
weight_slots i (Some (File file)) = refl
weight_slots i (Some (Directory directory)) = refl
weight_slots i (Some (Link link)) = refl

-- the same inode changed in trees with the same names
pub with_alike : (tree other : Tree) (i : ℕ) (node : Option Node) → SameNames tree other → SameNames (with_node tree i node) (with_node other i node)
with_alike tree other i node same k = elim (cases_eq k i) [
  | inl at ↦
      ap (λ (j : ℕ). names_of (with_node tree i node j)) at ∙ ap names_of (with_node-here tree i node) ∙ sym (ap names_of (with_node-here other i node))
      ∙ sym (ap (λ (j : ℕ). names_of (with_node other i node j)) at)
  | inr apart ↦ ap names_of (with_node-other tree i k node apart) ∙ same k ∙ sym (ap names_of (with_node-other other i k node apart))
]

module _ (g : Geometry) (tree : Tree) (right : IsRightWithin g tree) where
  module _ (dir i moment : ℕ) (name : List ℕ) (d : DirectoryNode) (there : tree dir ≡ Some (Directory d)) (found : lookup tree dir name ≡ Some i) (plain : is_directory_in tree i ≡ false) where
    abbrev leaving : Node → Node
    leaving = on_chunks (λ chunks. taken_out_of chunks name)

    abbrev second : Tree
    second = on_node dir leaving tree

    in_use_dir : dir < inodes_of g
    in_use_dir = below g tree right dir (ap (λ (o : Option Node). is_some o) there)

    both : (i ≢ 0) × (is_some (tree i) ≡ true)
    both = found_used g tree right dir d name i there found

    in_use_i : i < inodes_of g
    in_use_i = below g tree right i both.1

    named_here : named (all_slots d.chunks) name ≡ Some i
    named_here = sym (ap (λ (o : Option Node). named_by o name) there) ∙ found

    no_directory : directory_of (names_of (tree i)) ≡ false
    no_directory = directory_as (tree i) ∙ plain

    apart : i ≢ dir
    apart same = true≢false (sym (ap (λ (k : ℕ). directory_of (names_of (tree k))) same ∙ ap (λ (o : Option Node). directory_of (names_of o)) there) ∙ no_directory)

    second_dir : second dir ≡ Some (leaving (Directory d))
    second_dir = on_node-here tree dir leaving (Directory d) there

    second_i : second i ≡ tree i
    second_i = on_node-other tree dir i leaving apart

    second_others : (k : ℕ) → k ≢ dir → second k ≡ tree k
    second_others k not_dir = on_node-other tree dir k leaving not_dir

    -- the inode has other names
    kept_right : IsRightWithin g second
    kept_right = record {
      names = leave_right (inodes_of g) (names_in_tree tree) (names_in_tree second) right.names dir i name (all_slots d.chunks) (all_slots (taken_out_of d.chunks name)) (ap names_of there)
          (ap names_of second_dir) in_use_dir (leaves name i d.chunks named_here) named_here no_directory (ap (λ (o : Option Node). directory_of (names_of o)) second_i ∙ no_directory)
          (λ k not_dir not_i. ap names_of (second_others k not_dir)) (inl (ap (λ (o : Option Node). is_some (names_of o)) second_i ∙ used_as (tree i) ∙ both.1));
      within = λ k past. second_others k (λ e. omega (arith, in_use_dir)) ∙ right.within k past;
    }

    abbrev dropped : Tree
    dropped = with_node second i None

    -- it was the only name
    none_named : links_in g tree i ≡ 1 → (k : ℕ) → k < inodes_of g → slot_sum (of_inode i) (slots_at (names_in_tree dropped) k) ≡ 0
    none_named one k less =
        let changed = total-on_node (names_in i) g tree dir leaving (Directory d) there in_use_dir in
        let own : one_if (i == i) ≡ 1 = ap one_if (eq-eqb i i refl) in
        let fewer = leaves-sum name i (of_inode i) (free_names_none i both.0) (all_slots d.chunks) (all_slots (taken_out_of d.chunks name)) (leaves name i d.chunks named_here) in
        let none : total (names_in i) g second ≡ 0 = omega (arith, changed, own, fewer, total-links g tree i, one) in
        elim (cases_eq k i) [
          | inl at ↦ ap (λ (j : ℕ). slot_sum (of_inode i) (slots_at (names_in_tree dropped) j)) at ∙ ap (λ (o : Option Node). slot_sum (of_inode i) (slots_from (names_of o))) (with_node-here second i None)
          | inr other ↦
              ap (λ (o : Option Node). slot_sum (of_inode i) (slots_from (names_of o))) (with_node-other second i k None other) ∙ sym (weight_slots i (second k))
              ∙ none_at (λ (j : ℕ). weight_in (names_in i) (second j)) (inodes_of g) 0 k none (omega arith) (omega arith)
        ]

    dropped_right : links_in g tree i ≡ 1 → IsRightWithin g dropped
    dropped_right one = record {
      names = leave_right (inodes_of g) (names_in_tree tree) (names_in_tree dropped) right.names dir i name (all_slots d.chunks) (all_slots (taken_out_of d.chunks name)) (ap names_of there)
          (ap names_of (with_node-other second i dir None (λ e. apart (sym e)) ∙ second_dir)) in_use_dir (leaves name i d.chunks named_here) named_here no_directory
          (ap (λ (o : Option Node). directory_of (names_of o)) (with_node-here second i None))
          (λ k not_dir not_i. ap names_of (with_node-other second i k None not_i ∙ second_others k not_dir)) (inr (none_named one));
      within = λ k past. with_node-other second i k None (λ e. omega (arith, in_use_i)) ∙ second_others k (λ e. omega (arith, in_use_dir)) ∙ right.within k past;
    }

    after_links : ((links_in g tree i == 1) ≡ true) ⊎ ((links_in g tree i == 1) ≡ false) → IsRightWithin g (edited_all (losing g tree i) (on_node dir (with_time moment) second))
    unfolding edited
    after_links links =
        let third : Tree = on_node dir (with_time moment) second in
        let by : Bool → Tree = λ b. edited_all (option_map_or (λ lost. Drop lost ∷ []) (cond b (Some i) None) []) third in
        let at : (is_directory_in tree i || links_in g tree i == 1) ≡ (links_in g tree i == 1) = ap (λ (b : Bool). b || links_in g tree i == 1) plain in
        elim links [
          | inl one ↦
              subst (λ (b : Bool). IsRightWithin g (by b)) (sym (at ∙ one))
              (right_as g dropped (with_node third i None) (with_alike third second i None (time_same second dir moment)) (dropped_right (eqb-true (links_in g tree i) 1 one)))
          | inr more ↦ subst (λ (b : Bool). IsRightWithin g (by b)) (sym (at ∙ more)) (right_as g second third (time_same second dir moment) kept_right)
        ]

  removing_right : (p : WalkEnd) (i moment : ℕ) → is_directory_in tree p.dir ≡ true → lookup tree p.dir p.name ≡ Some i → is_directory_in tree i ≡ false → IsRightWithin g (edited_all (removing g tree p i moment) tree)
  unfolding edited
  removing_right p i moment is found plain =
      let there = directory_in (tree p.dir) is in
      after_links p.dir i moment p.name there.0 there.1 found plain (cases_Bool (links_in g tree i == 1))

  module _ (cred : Cred) (ino moment : ℕ) (path : List ℕ) where
    removed_right : (p : WalkEnd) → IsIn tree p → (found : Option ℕ) → p.found ≡ found
        → first_of (on_found found (λ i. (not (may tree cred p.dir 2), Refuse Denied) ∷ ((is_directory_in tree i, Refuse Isdir) ∷ []))) Proceed ≡ Proceed
        → IsRightWithin g (edited_all (on_found_inode found (λ i. removing g tree p i moment)) tree)
    removed_right p is None found go = right
    removed_right p is (Some i) found go =
        let none = rows_pass ((not (may tree cred p.dir 2), Denied) ∷ ((is_directory_in tree i, Isdir) ∷ [])) (ap (λ (d : Decision). decided_reply d reply.Done) go) in
        removing_right p i moment is.0 (is.1 ∙ found) none.1.1.0

    at_right : (ends : WalkEnds) → EndsIn tree ends → decision_at g tree cred (call.Remove path) ends ≡ Proceed → IsRightWithin g (edited_all (edits_at g tree cred ino moment (call.Remove path) ends) tree)
    unfolding decision_at
    at_right (One p) is go = removed_right p is p.found refl go
    at_right ends is go = right

    walked_right : (ends : Result WalkEnds Refusal) → (let P : Type 0 = elim ends [ Ok e ↦ EndsIn tree e | Err why ↦ Unit {0} ] in P) → IsRightWithin g (walked_tree g tree cred ino moment (call.Remove path) ends)
    walked_right (Err why) is = right
    walked_right (Ok ends) is = by_decision (decision_at g tree cred (call.Remove path) ends) refl where
      by_decision : (d : Decision) → decision_at g tree cred (call.Remove path) ends ≡ d → IsRightWithin g (decided d tree (edited_all (edits_at g tree cred ino moment (call.Remove path) ends) tree))
      by_decision (Refuse why) go = right
      by_decision Unchanged go = right
      by_decision Proceed go = at_right ends is go

pub right_removed : (g : Geometry) (tree : Tree) (cred : Cred) (ino moment : ℕ) (path : List ℕ) → IsRightWithin g tree → IsRightWithin g (tree_after g tree cred ino moment (call.Remove path))
unfolding tree_after
right_removed g tree cred ino moment path right = walked_right g tree right cred ino moment path (ends_of tree cred (call.Remove path)) (ends_in tree cred (call.Remove path))
