use Rattle.std.proofs.Common.{ap}
use Rattle.std.specs.Option.{option_map}
use Rattle.lufs_base.specs.declared.numbers.Ino.{Ino}
use Rattle.tree_types.specs.declared.call.Call.TheVariants as call
use Rattle.tree_types.specs.declared.reply.Refusal.TheVariants.{Noent}
use Rattle.tree_types.specs.declared.reply.Reply.TheVariants.{Refused}
use Rattle.volume_model.specs.Sound.{Tree}
use Rattle.inode_reads.specs.InodeOf.{IsInodeOf}
use Rattle.inode_reads.proofs.ByTree.{always, follows}
use Rattle.path_walk.specs.Answers.{end_of}
use Rattle.file_ops.specs.Replies.{IsReplyTo}
use Rattle.file_ops.proofs.StatReplies.{stat_none, lstat_none, stat_some, lstat_some}
use Rattle.file_ops.proofs.stats.stat.Goals as goal

pub returns-in_default-clause-stat : goal.returns-in_default-clause-stat
returns-in_default-clause-stat g c cred path =
    let store = g.S.MetaRead.store c.args.store.now in
    let p = end_of c.args.walked.now in
    always store.geometry store.content (λ (tree : Tree). IsReplyTo store.geometry tree cred (call.Stat path) p (Refused Noent))
    (λ tree. stat_none store.geometry cred path p tree (ap (option_map (λ (i : Ino). i.0)) c.in_default.is))

pub returns-in_default-clause-lstat : goal.returns-in_default-clause-lstat
returns-in_default-clause-lstat g c cred path =
    let store = g.S.MetaRead.store c.args.store.now in
    let p = end_of c.args.walked.now in
    always store.geometry store.content (λ (tree : Tree). IsReplyTo store.geometry tree cred (call.Lstat path) p (Refused Noent))
    (λ tree. lstat_none store.geometry cred path p tree (ap (option_map (λ (i : Ino). i.0)) c.in_default.is))

pub returns-clause-stat : goal.returns-clause-stat
returns-clause-stat g c cred path =
    let store = g.S.MetaRead.store c.args.store.now in
    let p = end_of c.args.walked.now in
    let i = c.in-Some.i.0 in
    let reply = c.reply_of.result in
    follows store.geometry store.content (λ (tree : Tree). IsInodeOf store.geometry tree i c.in_ok-found.found) (λ (tree : Tree). IsReplyTo store.geometry tree cred (call.Stat path) p reply)
    (λ tree is. stat_some store.geometry cred path p tree i reply (ap (option_map (λ (i : Ino). i.0)) c.in-Some.is) (c.reply_of.ensures store.geometry tree is))
    c.in_ok-found.ensures.tree

pub returns-clause-lstat : goal.returns-clause-lstat
returns-clause-lstat g c cred path =
    let store = g.S.MetaRead.store c.args.store.now in
    let p = end_of c.args.walked.now in
    let i = c.in-Some.i.0 in
    let reply = c.reply_of.result in
    follows store.geometry store.content (λ (tree : Tree). IsInodeOf store.geometry tree i c.in_ok-found.found) (λ (tree : Tree). IsReplyTo store.geometry tree cred (call.Lstat path) p reply)
    (λ tree is. lstat_some store.geometry cred path p tree i reply (ap (option_map (λ (i : Ino). i.0)) c.in-Some.is) (c.reply_of.ensures store.geometry tree is))
    c.in_ok-found.ensures.tree
