-- What `stat` and `lstat` are answered, by what their walk found.
use Rattle.std.proofs.Common.{◌≡◌, ℕ, List, [], Option, Some, None, sym, ap, ◌∙◌}
use Rattle.lufs_base.specs.declared.geometry.Geometry.{Geometry}
use Rattle.tree_types.specs.declared.credentials.Cred.{Cred}
use Rattle.tree_types.specs.declared.call.Call.TheVariants as call
use Rattle.tree_types.specs.declared.reply.Refusal.TheVariants.{Noent}
use Rattle.tree_types.specs.declared.reply.Reply.{Reply}
use Rattle.tree_types.specs.declared.reply.Reply.TheVariants as reply
use Rattle.volume_model.specs.Sound.{Tree}
use Rattle.history_model.specs.Walk.{WalkEnd, first_of}
use Rattle.history_model.specs.Refusals.{Proceed, on_found, decision_at}
use Rattle.history_model.specs.Replies.{decided_reply, reply_on, stat_reply}
use Rattle.file_ops.specs.Replies.{IsReplyTo}

-- the reply, by what the walk found
abbrev told : Geometry → Tree → Option ℕ → Reply
told g tree found = decided_reply (first_of (on_found found (λ i. [])) Proceed) (reply_on found (stat_reply g tree))

module _ (g : Geometry) (cred : Cred) (path : List ℕ) (p : WalkEnd) (tree : Tree) where
  pub stat_none : p.found ≡ None → IsReplyTo g tree cred (call.Stat path) p (reply.Refused Noent)
  unfolding decision_at
  stat_none none = sym (ap (told g tree) none)

  pub lstat_none : p.found ≡ None → IsReplyTo g tree cred (call.Lstat path) p (reply.Refused Noent)
  unfolding decision_at
  lstat_none none = sym (ap (told g tree) none)

  pub stat_some : (i : ℕ) (r : Reply) → p.found ≡ Some i → r ≡ stat_reply g tree i → IsReplyTo g tree cred (call.Stat path) p r
  unfolding decision_at
  stat_some i r some is = is ∙ sym (ap (told g tree) some)

  pub lstat_some : (i : ℕ) (r : Reply) → p.found ≡ Some i → r ≡ stat_reply g tree i → IsReplyTo g tree cred (call.Lstat path) p r
  unfolding decision_at
  lstat_some i r some is = is ∙ sym (ap (told g tree) some)
