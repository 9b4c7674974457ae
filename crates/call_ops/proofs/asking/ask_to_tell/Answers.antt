use Rattle.std.proofs.Common.{subst}
use Rattle.call_ops.proofs.StoresAsked.{EndsSo, none_walked, all_told_of}
use Rattle.call_ops.proofs.asking.ask_to_tell.Goals as goal

pub returns-in-Err-clause-answer : goal.returns-in-Err-clause-answer
returns-in-Err-clause-answer g c =
    let store = g.S.MetaRead.store c.args.store.now in
    none_walked store.content store.geometry c.args.cred.now c.args.call.now c.args.follow c.args.path.now c.requires.path c.in-Err.why
    (subst (EndsSo store.content store.geometry c.args.cred.now c.args.call.now c.args.follow c.args.path.now c.requires.path) c.in-Err.is c.in_ok-walked.ensures.value)

pub returns-clause-answer : goal.returns-clause-answer
returns-clause-answer g c =
    let store = g.S.MetaRead.store c.args.store.now in
    let now = g.S.MetaRead.store c.end_of.new.store in
    all_told_of store.content store.geometry c.args.cred.now c.args.call.now c.args.follow c.args.path.now c.requires.path c.in-Ok.walked
    (subst (EndsSo store.content store.geometry c.args.cred.now c.args.call.now c.args.follow c.args.path.now c.requires.path) c.in-Ok.is c.in_ok-walked.ensures.value)
    now.content now.geometry c.in_ok-reply.reply c.in_ok-walked.ensures.unchanged.content c.in_ok-walked.ensures.unchanged.geometry c.requires.tells c.in_ok-reply.ensures.value
