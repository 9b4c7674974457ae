use Rattle.std.proofs.Common.{◌≡◌, Result, ◌∙◌, sym, subst}
use Rattle.std.specs.Prelude.{IfOk}
use Rattle.tree_types.specs.declared.reply.Refusal.{Refusal}
use Rattle.meta_store.specs.declared.error.StoreError.{StoreError}
use Rattle.history_model.specs.Walk.{walk_of}
use Rattle.history_model.specs.Ends.{end_of}
use Rattle.inode_reads.proofs.ByTree.{follows}
use Rattle.path_walk.specs.Answers.{AnswersWalk}
use Rattle.path_walk.specs.declared.walked.Walked.{Walked}
use Rattle.call_ops.specs.Ended.{ends_by}
use Rattle.call_ops.proofs.EndsAnswered.{walk_answered}
use Rattle.call_ops.proofs.ends.end_of.Goals as goal

pub returns-clause-value : goal.returns-clause-value
returns-clause-value g c =
    let store = g.S.MetaRead.store c.args.store.now in
    let cred = c.args.cred.now in
    let path = c.args.path.now in
    let follow = c.args.follow in
    follows store.geometry store.content (λ tree. AnswersWalk (walk_of tree cred path follow) c.walk.result)
    (λ tree. IfOk c.as_answer.result (λ end. end_of tree cred follow path ≡ ends_by end))
    (λ tree is. subst (λ (r : Result (Result Walked Refusal) StoreError). IfOk r (λ end. end_of tree cred follow path ≡ ends_by end)) (sym c.as_answer.ensures)
    (walk_answered tree cred follow path (sym c.is_long.ensures ∙ c.if-is_long.false) c.walk.result is))
    c.walk.ensures.value
