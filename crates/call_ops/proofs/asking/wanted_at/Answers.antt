use Rattle.std.proofs.Common.{sym, subst}
use Rattle.tree_types.specs.declared.call.Call.TheVariants as call
use Rattle.path_walk.specs.Answers.{end_of as place_of}
use Rattle.call_ops.proofs.StoresAsked.{AnswersCall, wherever}
use Rattle.call_ops.proofs.asking.wanted_at.Goals as goal

pub returns-in-Create-clause-answer : goal.returns-in-Create-clause-answer
returns-in-Create-clause-answer g c =
    let store = g.S.MetaRead.store c.args.store.now in
    subst (AnswersCall store.content store.geometry c.args.cred.now (place_of c.args.walked.now) c.args.held.now c.wants_create.result) (sym c.in-Create.is)
    (λ tree. c.wants_create.ensures.answer tree c.in-Create.path c.in-Create.mode)

pub returns-in-Mkdir-clause-answer : goal.returns-in-Mkdir-clause-answer
returns-in-Mkdir-clause-answer g c =
    let store = g.S.MetaRead.store c.args.store.now in
    subst (AnswersCall store.content store.geometry c.args.cred.now (place_of c.args.walked.now) c.args.held.now c.wants_mkdir.result) (sym c.in-Mkdir.is)
    (λ tree. c.wants_mkdir.ensures.answer tree c.in-Mkdir.path c.in-Mkdir.mode)

pub returns-in-Remove-clause-answer : goal.returns-in-Remove-clause-answer
returns-in-Remove-clause-answer g c =
    let store = g.S.MetaRead.store c.args.store.now in
    subst (AnswersCall store.content store.geometry c.args.cred.now (place_of c.args.walked.now) c.args.held.now c.wants_remove.result) (sym c.in-Remove.is)
    (wherever store.content store.geometry c.args.cred.now (place_of c.args.walked.now) c.args.held.now c.wants_remove.result (call.Remove c.in-Remove.path)
    (λ tree hands. c.wants_remove.ensures.answer tree hands c.in-Remove.path))

pub returns-in-Rmdir-clause-answer : goal.returns-in-Rmdir-clause-answer
returns-in-Rmdir-clause-answer g c =
    let store = g.S.MetaRead.store c.args.store.now in
    subst (AnswersCall store.content store.geometry c.args.cred.now (place_of c.args.walked.now) c.args.held.now c.wants_rmdir.result) (sym c.in-Rmdir.is)
    (wherever store.content store.geometry c.args.cred.now (place_of c.args.walked.now) c.args.held.now c.wants_rmdir.result (call.Rmdir c.in-Rmdir.path)
    (λ tree hands. c.wants_rmdir.ensures.answer tree hands c.in-Rmdir.path))
