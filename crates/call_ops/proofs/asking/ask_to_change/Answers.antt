use Rattle.std.proofs.Common.{false, ◌∙◌, sym, subst}
use Rattle.tree_types.specs.declared.reply.Refusal.TheVariants.{Inval}
use Rattle.tree_types.specs.declared.reply.Reply.TheVariants as reply
use Rattle.volume_model.specs.Sound.{Tree}
use Rattle.call_ops.specs.Asked.{IsReplyAlone}
use Rattle.call_ops.proofs.StoresAsked.{EndsSo, while_held, none_walked, always_named, asked_held}
use Rattle.call_ops.proofs.asking.ask_to_change.Goals as goal

pub returns-in-Err-clause-answer : goal.returns-in-Err-clause-answer
returns-in-Err-clause-answer g c =
    let store = g.S.MetaRead.store c.args.store.now in
    while_held store.content store.geometry (λ tree. IsReplyAlone store.geometry tree c.args.cred.now c.args.call.now (reply.Refused c.in-Err.why)) c.args.held.now
    (none_walked store.content store.geometry c.args.cred.now c.args.call.now false c.args.path.now c.requires.path c.in-Err.why
    (subst (EndsSo store.content store.geometry c.args.cred.now c.args.call.now false c.args.path.now c.requires.path) c.in-Err.is c.in_ok-walked.ensures.value))

pub returns-then-not-is_allowed-clause-answer : goal.returns-then-not-is_allowed-clause-answer
returns-then-not-is_allowed-clause-answer g c =
    let store = g.S.MetaRead.store c.args.store.now in
    let alone = λ (tree : Tree). IsReplyAlone store.geometry tree c.args.cred.now c.args.call.now (reply.Refused Inval) in
    while_held store.content store.geometry alone c.args.held.now
    (always_named store.geometry c.args.cred.now c.args.call.now c.args.path.now c.requires.path c.in-Ok.walked store.content c.requires.bytes
    (subst (EndsSo store.content store.geometry c.args.cred.now c.args.call.now false c.args.path.now c.requires.path) c.in-Ok.is c.in_ok-walked.ensures.value)
    (sym c.is_allowed.ensures ∙ c.if-not-is_allowed.true) alone)

pub returns-clause-answer : goal.returns-clause-answer
returns-clause-answer g c =
    let store = g.S.MetaRead.store c.args.store.now in
    let now = g.S.MetaRead.store c.end_of.new.store in
    asked_held store.geometry c.args.cred.now c.args.call.now c.args.path.now c.requires.path c.in-Ok.walked store.content now.content now.geometry c.args.held.now
    c.in_ok-wanted.wanted c.answer_by.result c.in_ok-walked.ensures.unchanged.content c.in_ok-walked.ensures.unchanged.geometry c.requires.changes
    (subst (EndsSo store.content store.geometry c.args.cred.now c.args.call.now false c.args.path.now c.requires.path) c.in-Ok.is c.in_ok-walked.ensures.value)
    c.in_ok-wanted.ensures.answer c.answer_by.ensures
