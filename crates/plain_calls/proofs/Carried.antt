-- A call that is carried out with what it wants in its hand: it may be planned, and its plan is done.
use Rattle.std.proofs.Common.{ℕ, Bool, [], ◌∷◌, refl, ap, ◌∙◌, subst}
use Rattle.std.proofs.lemmas.List.{append-nil}
use Rattle.lufs_base.specs.Layout.{IsGeometry}
use Rattle.lufs_base.specs.declared.geometry.Geometry.{Geometry}
use Rattle.volume_model.specs.declared.hand.Hand.{Hand}
use Rattle.volume_model.specs.Format.{Image, block}
use Rattle.volume_model.specs.Sound.{held_inodes, Tree, StandsFor}
use Rattle.tree_types.specs.declared.credentials.Cred.{Cred}
use Rattle.tree_types.specs.declared.call.Call.{Call}
use Rattle.tree_types.specs.declared.reply.Reply.{Reply}
use Rattle.history_model.specs.Ends.{One}
use Rattle.history_model.specs.Replies.{refusal_of, tree_after}
use Rattle.meta_store.specs.declared.change.Change.{Change}
use Rattle.meta_store.specs.Store.{plain_told}
use Rattle.meta_store.specs.Changing.{Changing, AllTold, IsAsBefore, all_told}
use Rattle.meta_store.specs.Changes.{Applies}
use Rattle.meta_store.specs.Conditions.{MayApply}
use Rattle.change_laws.specs.Hands.{times}
use Rattle.plan_ends.specs.Planned.{ino_of, IsSpent, MayPlan, IsPlanned}
use Rattle.path_walk.specs.Answers.{end_of}
use Rattle.path_walk.specs.declared.walked.Walked.{Walked}
use Rattle.call_ops.specs.Asked.{IsWanting}
use Rattle.plain_calls.specs.InHand.{HasHand}
use Rattle.plain_calls.proofs.Applied.{told_same, stands_applied}
use Rattle.plain_calls.proofs.Enough.{answered_done}

-- with the only hand spent nothing is held
spent_all : (hand : Hand) → IsSpent hand (hand ∷ []) []
spent_all hand = record {
  inodes = λ n. ap (times n) (append-nil (held_inodes (hand ∷ [])));
  blocks = λ n. refl;
}

module _ (g : Geometry) (image : Image) (before : Changing) (tree : Tree) (cred : Cred) (c : Call) (walked : Walked) (inode : Bool) (n : ℕ) (hand : Hand)
    (wanting : IsWanting g tree cred c walked inode n) (has : HasHand inode n tree hand (all_told (plain_told g image) before)) where
  pub may_plan : MayPlan (all_told (plain_told g image) before) image tree cred c (One (end_of walked)) (hand ∷ []) hand []
  may_plan = record {
    stands = has.stands;
    walked = wanting.ends;
    spent = spent_all hand;
    taken = has.holds.taken;
    wanted = λ go. record { inode = has.inode ∙ wanting.inode; blocks = has.blocks ∙ wanting.blocks };
  }

  module _ (mid now : Image) (h k : Geometry) (later after : Changing) (moment : ℕ) (change : Change) (answer : Reply) (ok : IsGeometry g)
      (planned : IsPlanned g image tree cred c (ino_of hand) moment [] change answer) (may : MayApply change (all_told (plain_told g image) before))
      (same : IsAsBefore (all_told (plain_told g image) before) (all_told (plain_told h mid) later))
      (applied : Applies change (all_told (plain_told h mid) later) (all_told (plain_told k now) after)) where
    pub carried_stands : StandsFor k (block now) (tree_after g tree cred (ino_of hand) moment c) []
    carried_stands =
        let done = planned.replied ∙ answered_done g tree cred (end_of walked) c wanting.ends wanting.decision wanting.names in
        stands_applied g k image now before after change tree (tree_after g tree cred (ino_of hand) moment c) (hand ∷ []) [] ok has.stands (planned.done (ap refusal_of done)) may
        (subst (λ (told : AllTold). Applies change told (all_told (plain_told k now) after)) (told_same g h image mid before later same) applied)
