use Rattle.std.proofs.Common.{◌≡◌, ℕ, List, Option, Some, None, Bor, refl, sym, ◌∙◌, subst}
use Rattle.std.specs.Option.{option_map, option_copied}
use Rattle.tree_types.specs.declared.call.Call.{Call}
use Rattle.tree_types.specs.declared.call.Call.TheVariants as call
use Rattle.inode_reads.specs.Answers.{AnswersByTree}
use Rattle.path_walk.specs.Answers.{end_of as place_of}
use Rattle.file_ops.specs.Replies.{IsReplyTo}
use Rattle.call_ops.proofs.asking.told_at.Goals as goal

-- the name behind a reference
borrowed : {X : Type 0} (o : Option (Bor X)) → option_map (λ n. n.now) o ≡ option_copied o
borrowed None = refl
borrowed (Some n) = refl

pub returns-in-Stat-clause-value : goal.returns-in-Stat-clause-value
returns-in-Stat-clause-value g c =
    let store = g.S.MetaRead.store c.args.store.now in
    subst (λ (x : Call). AnswersByTree store (λ tree. IsReplyTo store.geometry tree c.args.cred.now x (place_of c.args.walked.now)) c.stat.result)
    (sym c.in-Stat.is) (c.stat.ensures.stat c.args.cred.now c.in-Stat.path)

pub returns-in-Lstat-clause-value : goal.returns-in-Lstat-clause-value
returns-in-Lstat-clause-value g c =
    let store = g.S.MetaRead.store c.args.store.now in
    subst (λ (x : Call). AnswersByTree store (λ tree. IsReplyTo store.geometry tree c.args.cred.now x (place_of c.args.walked.now)) c.stat-in-Lstat.result)
    (sym c.in-Lstat.is) (c.stat-in-Lstat.ensures.lstat c.args.cred.now c.in-Lstat.path)

pub returns-in-List-clause-value : goal.returns-in-List-clause-value
returns-in-List-clause-value g c =
    let store = g.S.MetaRead.store c.args.store.now in
    subst (λ (x : Call). AnswersByTree store (λ tree. IsReplyTo store.geometry tree c.args.cred.now x (place_of c.args.walked.now)) c.list.result)
    (sym c.in-List.is)
    (subst (λ (after : Option (List ℕ)). AnswersByTree store (λ tree. IsReplyTo store.geometry tree c.args.cred.now (call.List c.in-List.path after) (place_of c.args.walked.now)) c.list.result)
    (borrowed c.as_ref.result ∙ c.as_ref.ensures.value) (c.list.ensures.value c.in-List.path))
