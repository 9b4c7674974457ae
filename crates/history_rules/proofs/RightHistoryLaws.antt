-- What each call keeps holds along a legal history.
use Rattle.std.proofs.Common.{◌≡◌, ℕ, zero, suc, Bool, true, false, ◌&&◌, List, [], ◌∷◌, ◌++◌, take, Option, Some, None, refl, sym, subst, inl, inr, ◌∙◌}
use Rattle.std.proofs.lemmas.Bool.{cases_Bool, true≢false}
use Rattle.std.specs.Prelude.{is_some, unwrap_or, IfSome}
use Rattle.std.specs.List.{AllByRecursion}
use Rattle.lufs_base.specs.declared.geometry.Geometry.{Geometry}
use Rattle.tree_types.specs.declared.credentials.Cred.{Cred}
use Rattle.tree_types.specs.declared.call.Call.{Call}
use Rattle.tree_types.specs.declared.history.Entry.{Entry}
use Rattle.tree_types.specs.declared.reply.Refusal.{Refusal}
use Rattle.tree_types.specs.declared.reply.Reply.{Reply}
use Rattle.tree_types.specs.declared.reply.Reply.TheVariants as reply
use Rattle.volume_model.specs.Sound.{Tree}
use Rattle.history_model.specs.Histories.{is_ok, is_carried_out, after_call, replayed_on, replay_of, makes_inode, IsUsable, IsRightEntry, IsRightReply, IsRightAfter, EachAfter, Legal}
use Rattle.history_model.specs.Replies.{tree_after}
use Rattle.history_rules.proofs.RefusedLaws.{refused_tree}
use Rattle.history_rules.proofs.HistoryLaws.{replayed-last}

why_refused : (r : Reply) → is_ok r ≡ false → (why : Refusal) × (r ≡ reply.Refused why)
why_refused (reply.Refused why) is = (why, refl)
why_refused r is = absurd (true≢false is)

of_some : (Q : ℕ → Type 0) (o : Option ℕ) → is_some o ≡ true → IfSome o Q → Q (unwrap_or o 0)
of_some Q None some is = absurd (true≢false (sym some))
of_some Q (Some i) some is = is

-- P holds after each call of kind Q that makes no inode but a usable one
module _ (P : Tree → Type 0) (Q : Call → Type 0) (g : Geometry) (moment : ℕ)
    (step : (tree : Tree) (cred : Cred) (ino : ℕ) (c : Call) → (makes_inode c ≡ true → IsUsable g tree ino) → Q c → P tree → P (tree_after g tree cred ino moment c)) where
  call_keeps : (tree : Tree) (e : Entry) (c : Call) → IsRightEntry g tree e c → Q c → P tree → P (after_call g moment tree e (Some c))
  call_keeps tree e c right kind before = by_reply (is_carried_out e.reply) refl where
    by_reply : (carried : Bool) → is_carried_out e.reply ≡ carried → P (let t : Tree = elim carried [ true ↦ tree_after g tree e.cred (unwrap_or e.ino 0) moment c | false ↦ tree ] in t)
    by_reply false is = before
    by_reply true is = elim (cases_Bool (is_ok e.reply)) [
      | inl ok ↦ step tree e.cred (unwrap_or e.ino 0) c (λ makes. of_some (IsUsable g tree) e.ino (right.made ∙ (λ t. makes t && ok t)) right.usable) kind before
      | inr refused ↦
          let why = why_refused e.reply refused in
          subst P (sym (refused_tree g tree e.cred c why.0 (unwrap_or e.ino 0) moment (sym (right.reply is) ∙ why.1))) before
    ]

  entry_keeps : (tree : Tree) (e : Entry) (c : Option Call) → IsRightReply g tree e c → IfSome c Q → P tree → P (after_call g moment tree e c)
  entry_keeps tree e None right kind before = before
  entry_keeps tree e (Some c) right kind before = call_keeps tree e c right kind before

  each_keeps : (opening : Tree) (before entries : List Entry) (k : ℕ) → EachAfter (IsRightAfter g moment opening) before entries → AllByRecursion (λ e. IfSome e.call Q) entries
      → P (replayed_on g moment opening before) → P (replayed_on g moment (replayed_on g moment opening before) (take k entries))
  each_keeps opening before entries zero each kinds holds = holds
  each_keeps opening before [] (suc k) each kinds holds = holds
  each_keeps opening before (e ∷ entries) (suc k) each kinds holds =
      let last = replayed-last g moment opening before e in
      let here = entry_keeps (replayed_on g moment opening before) e e.call each.0.reply kinds.0 holds in
      subst (λ (t : Tree). P (replayed_on g moment t (take k entries))) last (each_keeps opening (before ++ e ∷ []) entries k each.1 kinds.1 (subst P (sym last) here))

  pub history_keeps : (opening : Tree) (entries : List Entry) (k : ℕ) → Legal g moment opening entries → AllByRecursion (λ e. IfSome e.call Q) entries → P opening → P (replay_of g moment opening entries k)
  unfolding Legal replay_of
  history_keeps opening entries k legal kinds holds = each_keeps opening [] entries k legal kinds holds

any_call : (o : Option Call) → IfSome o (λ c. Unit {0})
any_call None = tt
any_call (Some c) = tt

-- each call is of the kind of all
pub any_calls : (entries : List Entry) → AllByRecursion (λ e. IfSome e.call (λ c. Unit {0})) entries
any_calls [] = tt
any_calls (e ∷ entries) = (any_call e.call, any_calls entries)
