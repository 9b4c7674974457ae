-- A call that nothing refuses finds free what it wants, makes an inode just where it wants one, and is answered ok.
use Rattle.std.proofs.Common.{◌≡◌, ◌≤◌, ℕ, ◌==◌, Bool, true, ◌&&◌, Result, Ok, refl, ap, ◌∙◌, arith}
use Rattle.std.proofs.lemmas.Bool.{ltb-false, false≢true}
use Rattle.lufs_base.specs.declared.geometry.Geometry.{Geometry}
use Rattle.tree_types.specs.declared.credentials.Cred.{Cred}
use Rattle.tree_types.specs.declared.call.Call.{Call}
use Rattle.tree_types.specs.declared.call.Call.TheVariants as call
use Rattle.tree_types.specs.declared.reply.Refusal.{Refusal}
use Rattle.tree_types.specs.declared.reply.Reply.TheVariants as reply
use Rattle.volume_model.specs.Sound.{Tree, free_inodes_of, free_blocks_of}
use Rattle.history_model.specs.Walk.{WalkEnd}
use Rattle.history_model.specs.Ends.{WalkEnds, One, ends_of}
use Rattle.history_model.specs.Wants.{create_wants, mkdir_wants, wants_at, blocks_in}
use Rattle.history_model.specs.Refusals.{Decision, Proceed, decision_at}
use Rattle.history_model.specs.Replies.{reply_at, decided_reply, walked_reply, reply_of}
use Rattle.history_model.specs.Histories.{makes_inode}
use Rattle.history_rules.proofs.CarriedOutLaws.{create_goes, mkdir_goes}
use Rattle.call_ops.specs.Served.{changes_names}
use Rattle.plain_calls.specs.InHand.{HasEnough}

module _ (g : Geometry) (tree : Tree) (cred : Cred) (p : WalkEnd) where
  pub enough : (c : Call) (inode : Bool) (blocks : ℕ) → decision_at g tree cred c (One p) ≡ Proceed → inode ≡ (wants_at tree c (One p)).inode → blocks ≡ blocks_in (wants_at tree c (One p))
      → changes_names c ≡ true → HasEnough g tree inode blocks
  enough (call.Create path mode) inode blocks go inode_is blocks_are names =
      let rows = create_goes g tree cred path mode p go in
      let few : blocks_in (create_wants tree p) ≤ free_blocks_of g tree = ltb-false (free_blocks_of g tree) (blocks_in (create_wants tree p)) rows.1.1.1.1.0 in
      record { inodes = ap (λ (b : Bool). b && free_inodes_of g tree == 0) inode_is ∙ rows.1.1.1.0; blocks = omega (arith, blocks_are, few) }
  enough (call.Mkdir path mode) inode blocks go inode_is blocks_are names =
      let rows = mkdir_goes g tree cred path mode p go in
      let few : blocks_in (mkdir_wants tree p) ≤ free_blocks_of g tree = ltb-false (free_blocks_of g tree) (blocks_in (mkdir_wants tree p)) rows.1.1.1.1.1.0 in
      record { inodes = ap (λ (b : Bool). b && free_inodes_of g tree == 0) inode_is ∙ rows.1.1.1.1.0; blocks = omega (arith, blocks_are, few) }
  enough (call.Remove path) inode blocks go inode_is blocks_are names =
      record { inodes = ap (λ (b : Bool). b && free_inodes_of g tree == 0) inode_is; blocks = omega (arith, blocks_are) }
  enough (call.Rmdir path) inode blocks go inode_is blocks_are names =
      record { inodes = ap (λ (b : Bool). b && free_inodes_of g tree == 0) inode_is; blocks = omega (arith, blocks_are) }
  enough other inode blocks go inode_is blocks_are names = absurd (false≢true names)

  pub makes_wanted : (c : Call) → changes_names c ≡ true → (wants_at tree c (One p)).inode ≡ makes_inode c
  makes_wanted (call.Create path mode) names = refl
  makes_wanted (call.Mkdir path mode) names = refl
  makes_wanted (call.Remove path) names = refl
  makes_wanted (call.Rmdir path) names = refl
  makes_wanted other names = absurd (false≢true names)

  nothing_told : (c : Call) → changes_names c ≡ true → reply_at g tree c (One p) ≡ reply.Done
  nothing_told (call.Create path mode) names = refl
  nothing_told (call.Mkdir path mode) names = refl
  nothing_told (call.Remove path) names = refl
  nothing_told (call.Rmdir path) names = refl
  nothing_told other names = absurd (false≢true names)

  pub answered_done : (c : Call) → ends_of tree cred c ≡ Ok (One p) → decision_at g tree cred c (One p) ≡ Proceed → changes_names c ≡ true → reply_of g tree cred c ≡ reply.Done
  unfolding reply_of
  answered_done c ends go names =
      ap (λ (e : Result WalkEnds Refusal). walked_reply g tree cred c e) ends ∙ ap (λ (d : Decision). decided_reply d (reply_at g tree c (One p))) go ∙ nothing_told c names
