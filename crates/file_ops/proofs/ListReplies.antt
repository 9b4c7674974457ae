-- What `list` is answered, by what its walk found.
use Rattle.std.proofs.Common.{◌≡◌, ℕ, Bool, List, Option, Some, None, sym, ap, ◌∙◌}
use Rattle.lufs_base.specs.declared.geometry.Geometry.{Geometry}
use Rattle.tree_types.specs.declared.credentials.Cred.{Cred}
use Rattle.tree_types.specs.declared.call.Call.TheVariants as call
use Rattle.tree_types.specs.declared.reply.Refusal.{Refusal}
use Rattle.tree_types.specs.declared.reply.Refusal.TheVariants.{Noent}
use Rattle.tree_types.specs.declared.reply.Reply.TheVariants as reply
use Rattle.volume_model.specs.Sound.{Tree}
use Rattle.history_model.specs.Walk.{WalkEnd, first_of}
use Rattle.history_model.specs.Names.{names_told, names_after}
use Rattle.history_model.specs.Refusals.{Decision, Proceed, list_refusals, decision_at}
use Rattle.history_model.specs.Replies.{decided_reply, reply_on, list_reply}
use Rattle.dir_reads.specs.Names.{first_names}
use Rattle.file_ops.specs.Replies.{IsReplyTo, decision_by}

module _ (g : Geometry) (cred : Cred) (path : List ℕ) (after : Option (List ℕ)) (p : WalkEnd) (tree : Tree) where
  pub list_none : p.found ≡ None → IsReplyTo g tree cred (call.List path after) p (reply.Refused Noent)
  unfolding decision_at
  list_none none =
      sym (ap (λ (found : Option ℕ). decided_reply (first_of (list_refusals tree cred (record p { found = found })) Proceed) (reply_on found (λ i. list_reply tree i after))) none)

  pub list_refused : (why : Refusal) → decision_by (Some why) ≡ first_of (list_refusals tree cred p) Proceed → IsReplyTo g tree cred (call.List path after) p (reply.Refused why)
  unfolding decision_at
  list_refused why is = ap (λ (d : Decision). decided_reply d (reply_on p.found (λ i. list_reply tree i after))) is

  pub list_told : (i : ℕ) (names : List (List ℕ)) (more : Bool) → p.found ≡ Some i → decision_by None ≡ first_of (list_refusals tree cred p) Proceed
      → (names, more) ≡ first_names names_told (names_after tree i after) → IsReplyTo g tree cred (call.List path after) p (reply.Names names more)
  unfolding decision_at
  list_told i names more some is told =
      ap (λ (x : List (List ℕ) × Bool). reply.Names x.0 x.1) told
      ∙ ap (λ (found : Option ℕ). reply_on found (λ i. list_reply tree i after)) (sym some)
      ∙ ap (λ (d : Decision). decided_reply d (reply_on p.found (λ i. list_reply tree i after))) is
