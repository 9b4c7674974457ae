use Rattle.std.proofs.Common.{sym, subst}
use Rattle.meta_store.specs.Changing.{all_told}
use Rattle.path_walk.specs.Answers.{end_of}
use Rattle.call_ops.proofs.StoresAsked.{PlansCall}
use Rattle.call_ops.proofs.planning.plan.Goals as goal

pub returns-in-Create-clause-planned : goal.returns-in-Create-clause-planned
returns-in-Create-clause-planned g c =
    let told = all_told (g.S.MetaRead.store c.args.store.now) (g.S.MetaRead.changing c.args.store.now) in
    subst (PlansCall told c.args.cred.now (end_of c.args.walked.now) c.args.held.now c.args.hand.now c.args.moment c.plan_create.result) (sym c.in-Create.is)
    (λ tree after. c.plan_create.ensures.planned tree c.in-Create.path after)

pub returns-in-Mkdir-clause-planned : goal.returns-in-Mkdir-clause-planned
returns-in-Mkdir-clause-planned g c =
    let told = all_told (g.S.MetaRead.store c.args.store.now) (g.S.MetaRead.changing c.args.store.now) in
    subst (PlansCall told c.args.cred.now (end_of c.args.walked.now) c.args.held.now c.args.hand.now c.args.moment c.plan_mkdir.result) (sym c.in-Mkdir.is)
    (λ tree after. c.plan_mkdir.ensures.planned tree c.in-Mkdir.path after)

pub returns-in-Remove-clause-planned : goal.returns-in-Remove-clause-planned
returns-in-Remove-clause-planned g c =
    let told = all_told (g.S.MetaRead.store c.args.store.now) (g.S.MetaRead.changing c.args.store.now) in
    subst (PlansCall told c.args.cred.now (end_of c.args.walked.now) c.args.held.now c.args.hand.now c.args.moment c.plan_remove.result) (sym c.in-Remove.is)
    (λ tree after. c.plan_remove.ensures.planned tree c.in-Remove.path c.args.hand.now c.args.held.now after)

pub returns-in-Rmdir-clause-planned : goal.returns-in-Rmdir-clause-planned
returns-in-Rmdir-clause-planned g c =
    let told = all_told (g.S.MetaRead.store c.args.store.now) (g.S.MetaRead.changing c.args.store.now) in
    subst (PlansCall told c.args.cred.now (end_of c.args.walked.now) c.args.held.now c.args.hand.now c.args.moment c.plan_rmdir.result) (sym c.in-Rmdir.is)
    (λ tree after. c.plan_rmdir.ensures.planned tree c.in-Rmdir.path c.args.hand.now c.args.held.now after)
