-- What an edit of the chunks of one directory changes of the names.
use Rattle.std.proofs.Common.{◌≡◌, ◌≢◌, ◌⊎◌, ℕ, ◌+◌, ◌==◌, Bool, cond, List, Option, Some, None, refl, sym, ap, subst, inl, inr, ◌∙◌, arith}
use Rattle.std.proofs.lemmas.Bool.{cases_eq, eq-eqb, ne_eqb}
use Rattle.std.specs.Prelude.{is_some}
use Rattle.volume_model.specs.declared.directory.Slot.{Slot}
use Rattle.volume_model.specs.Sound.{DirectoryNode, Node, Directory, Tree, Names, with_node, names_in_tree, is_used_in, is_directory_in, slots_at}
use Rattle.history_model.specs.Edits.{on_chunks, on_node}
use Rattle.history_rules.proofs.NodeLaws.{with_node-here, with_node-other, on_node-is, on_node-here, on_node-other}
use Rattle.history_rules.proofs.KeptNameLaws.{names_of}
use Rattle.history_rules.proofs.EnterLaws.{all_slots, slot_sum}
use Rattle.history_rules.proofs.RightNameLaws.{directory_of, slots_from}
use Rattle.history_rules.proofs.ChangedRightLaws.{BeginsAs}
use Rattle.history_rules.proofs.CountedLaws.{sum_at}

-- the slots of one directory are others now
pub record HasTurned (m after : Names) (dir : ℕ) (xs ys : List Slot) : Type 0 where
  pub there : m dir ≡ Some (Some xs)
  pub now : after dir ≡ Some (Some ys)
  pub others : (k : ℕ) → k ≢ dir → after k ≡ m k

pub turned : (tree : Tree) (dir : ℕ) (f : List (List Slot) → List (List Slot)) (d : DirectoryNode) → tree dir ≡ Some (Directory d)
    → HasTurned (names_in_tree tree) (names_in_tree (on_node dir (on_chunks f) tree)) dir (all_slots d.chunks) (all_slots (f d.chunks))
turned tree dir f d there = record {
  there = ap names_of there;
  now = ap names_of (on_node-here tree dir (on_chunks f) (Directory d) there);
  others = λ k apart. ap names_of (on_node-other tree dir k (on_chunks f) apart);
}

module _ (m after : Names) (dir : ℕ) (xs ys : List Slot) (turns : HasTurned m after dir xs ys) where
  pub turned_directory : (k : ℕ) → is_directory_in after k ≡ is_directory_in m k
  turned_directory k = elim (cases_eq k dir) [
    | inl at ↦ ap (is_directory_in after) at ∙ ap directory_of turns.now ∙ sym (ap directory_of turns.there) ∙ sym (ap (is_directory_in m) at)
    | inr apart ↦ ap directory_of (turns.others k apart)
  ]

  pub turned_used : (k : ℕ) → is_used_in after k ≡ is_used_in m k
  turned_used k = elim (cases_eq k dir) [
    | inl at ↦
        ap (is_used_in after) at ∙ ap (λ (o : Option (Option (List Slot))). is_some o) turns.now
        ∙ sym (ap (λ (o : Option (Option (List Slot))). is_some o) turns.there) ∙ sym (ap (is_used_in m) at)
    | inr apart ↦ ap (λ (o : Option (Option (List Slot))). is_some o) (turns.others k apart)
  ]

  pub turned_sum : (v : ℕ → List ℕ → ℕ) (lost gained : ℕ) → slot_sum v ys + lost ≡ slot_sum v xs + gained → (k : ℕ) → sum_at v after k + cond (k == dir) lost 0 ≡ sum_at v m k + cond (k == dir) gained 0
  turned_sum v lost gained change k = elim (cases_eq k dir) [
    | inl at ↦
        let now : sum_at v after k ≡ slot_sum v ys = ap (sum_at v after) at ∙ ap (λ (o : Option (Option (List Slot))). slot_sum v (slots_from o)) turns.now in
        let was : sum_at v m k ≡ slot_sum v xs = ap (sum_at v m) at ∙ ap (λ (o : Option (Option (List Slot))). slot_sum v (slots_from o)) turns.there in
        let less : cond (k == dir) lost 0 ≡ lost = ap (λ (b : Bool). cond b lost 0) (eq-eqb k dir at) in
        let more : cond (k == dir) gained 0 ≡ gained = ap (λ (b : Bool). cond b gained 0) (eq-eqb k dir at) in
        omega (arith, now, was, less, more, change)
    | inr apart ↦
        let same : sum_at v after k ≡ sum_at v m k = ap (λ (o : Option (Option (List Slot))). slot_sum v (slots_from o)) (turns.others k apart) in
        let less : cond (k == dir) lost 0 ≡ 0 = ap (λ (b : Bool). cond b lost 0) (ne_eqb k dir apart) in
        let more : cond (k == dir) gained 0 ≡ 0 = ap (λ (b : Bool). cond b gained 0) (ne_eqb k dir apart) in
        omega (arith, same, less, more)
  ]

  pub turned_begins : (k parent now_parent : ℕ) → (k ≡ dir → BeginsAs dir parent xs → BeginsAs dir now_parent ys) → (k ≢ dir → parent ≡ now_parent)
      → BeginsAs k parent (slots_at m k) → BeginsAs k now_parent (slots_at after k)
  turned_begins k parent now_parent here same is = elim (cases_eq k dir) [
    | inl at ↦
        let was : BeginsAs dir parent xs = subst (λ (o : Option (Option (List Slot))). BeginsAs dir parent (slots_from o)) turns.there (subst (λ (h : ℕ). BeginsAs h parent (slots_at m h)) at is) in
        let now : BeginsAs dir now_parent (slots_at after dir) = subst (λ (o : Option (Option (List Slot))). BeginsAs dir now_parent (slots_from o)) (sym turns.now) (here at was) in
        subst (λ (h : ℕ). BeginsAs h now_parent (slots_at after h)) (sym at) now
    | inr apart ↦
        let was : BeginsAs k now_parent (slots_at m k) = subst (λ (h : ℕ). BeginsAs k h (slots_at m k)) (same apart) is in
        subst (λ (o : Option (Option (List Slot))). BeginsAs k now_parent (slots_from o)) (sym (turns.others k apart)) was
  ]

pub on_node-none : (tree : Tree) (i : ℕ) (f : Node → Node) → tree i ≡ None → on_node i f tree ≡ tree
on_node-none tree i f is = ap (λ (o : Option Node). let after : Tree = elim o [ None ↦ tree | Some node ↦ with_node tree i (Some (f node)) ] in after) is

-- an edit of one inode and the end of another one, in either order
pub on_node-drop : (tree : Tree) (dir r : ℕ) (f : Node → Node) → dir ≢ r → on_node dir f (with_node tree r None) ≡ with_node (on_node dir f tree) r None
on_node-drop tree dir r f apart = by_node (tree dir) refl where
  is_same : (node : Node) (k : ℕ) → (k ≡ dir) ⊎ (k ≢ dir) → (k ≡ r) ⊎ (k ≢ r) → with_node (with_node tree r None) dir (Some (f node)) k ≡ with_node (with_node tree dir (Some (f node))) r None k
  is_same node k (inl at) gone =
      ap (with_node (with_node tree r None) dir (Some (f node))) at ∙ with_node-here (with_node tree r None) dir (Some (f node))
      ∙ sym (ap (with_node (with_node tree dir (Some (f node))) r None) at ∙ with_node-other (with_node tree dir (Some (f node))) r dir None apart ∙ with_node-here tree dir (Some (f node)))
  is_same node k (inr not_dir) (inl at) =
      with_node-other (with_node tree r None) dir k (Some (f node)) not_dir ∙ ap (with_node tree r None) at ∙ with_node-here tree r None
      ∙ sym (ap (with_node (with_node tree dir (Some (f node))) r None) at ∙ with_node-here (with_node tree dir (Some (f node))) r None)
  is_same node k (inr not_dir) (inr kept) =
      with_node-other (with_node tree r None) dir k (Some (f node)) not_dir ∙ with_node-other tree r k None kept
      ∙ sym (with_node-other (with_node tree dir (Some (f node))) r k None kept ∙ with_node-other tree dir k (Some (f node)) not_dir)

  by_node : (o : Option Node) → tree dir ≡ o → on_node dir f (with_node tree r None) ≡ with_node (on_node dir f tree) r None
  by_node None is =
      on_node-none (with_node tree r None) dir f (with_node-other tree r dir None apart ∙ is)
      ∙ sym (ap (λ (t : Tree). with_node t r None) (on_node-none tree dir f is))
  by_node (Some node) is =
      on_node-is (with_node tree r None) dir f node (with_node-other tree r dir None apart ∙ is)
      ∙ (λ t k. is_same node k (cases_eq k dir) (cases_eq k r) t)
      ∙ sym (ap (λ (t : Tree). with_node t r None) (on_node-is tree dir f node is))
