use Rattle.std.proofs.Common.{[], ◌∙◌}
use Rattle.plain_calls.proofs.ServedCalls.{served_told, told_alone, wants_it, stands_here, stands_there, wants_there, enough_there, served_at}
use Rattle.plain_calls.proofs.serving.serve_over.Goals as goal

pub returns-in-Told-clause-served : goal.returns-in-Told-clause-served
returns-in-Told-clause-served c tree stands =
    let s = c.args.store.now in
    let now = c.ask-2.new.store in
    served_told s.geometry c.args.moment tree c.args.cred.now c.args.call.now c.requires.served c.in-Told.reply s.image.items now.image.items stands
    (stands_here s.geometry s.image.items now.image.items tree [] c.in_ok-reply.ensures.unchanged.content stands)
    (told_alone s.geometry s.image.items tree c.args.cred.now c.args.call.now c.new.result c.new.ensures c.in_ok-reply.field-0 stands (c.in_ok-reply.ensures.answer tree) c.in-Told.reply c.in-Told.is)

pub take_wanted-requires-clause-enough : goal.take_wanted-requires-clause-enough
take_wanted-requires-clause-enough c =
    let s = c.args.store.now in
    let mid = c.ask-2.new.store in
    let w = c.in-Wants in
    let same = c.in_ok-reply.ensures.unchanged in
    let tree = c.requires.stands.0 in
    let wanting = wants_it s.geometry s.image.items tree c.args.cred.now c.args.call.now c.new.result c.new.ensures c.in_ok-reply.field-0 c.requires.stands.1 (c.in_ok-reply.ensures.answer tree)
    w.walked w.inode w.blocks w.is in (
      tree,
      stands_there s.geometry mid.geometry s.image.items mid.image.items tree [] same.geometry same.content c.requires.stands.1,
      enough_there mid.geometry tree c.args.cred.now c.args.call.now w.walked w.inode w.blocks (wants_there s.geometry mid.geometry tree c.args.cred.now c.args.call.now w.walked w.inode w.blocks same.geometry wanting),
    )

pub carry_out-requires-clause-changes : goal.carry_out-requires-clause-changes
carry_out-requires-clause-changes c =
    let s = c.args.store.now in
    let w = c.in-Wants in
    let tree = c.requires.stands.0 in
    let wanting = wants_it s.geometry s.image.items tree c.args.cred.now c.args.call.now c.new.result c.new.ensures c.in_ok-reply.field-0 c.requires.stands.1 (c.in_ok-reply.ensures.answer tree)
    w.walked w.inode w.blocks w.is in
    wanting.names

pub carry_out-requires-clause-hand : goal.carry_out-requires-clause-hand
carry_out-requires-clause-hand c =
    let s = c.args.store.now in
    let mid = c.ask-2.new.store in
    let later = c.take_wanted.new.store in
    let w = c.in-Wants in
    let same = c.in_ok-reply.ensures.unchanged in
    let tree = c.requires.stands.0 in
    let wanting = wants_it s.geometry s.image.items tree c.args.cred.now c.args.call.now c.new.result c.new.ensures c.in_ok-reply.field-0 c.requires.stands.1 (c.in_ok-reply.ensures.answer tree)
    w.walked w.inode w.blocks w.is in
    let stands = stands_there s.geometry mid.geometry s.image.items mid.image.items tree [] same.geometry same.content c.requires.stands.1 in
    let wanting_mid = wants_there s.geometry mid.geometry tree c.args.cred.now c.args.call.now w.walked w.inode w.blocks same.geometry wanting in (
      tree,
      w.inode,
      w.blocks,
      wants_there mid.geometry later.geometry tree c.args.cred.now c.args.call.now w.walked w.inode w.blocks c.in_ok-hand-in-Wants.ensures.geometry wanting_mid,
      c.in_ok-hand-in-Wants.ensures.hand tree stands (enough_there mid.geometry tree c.args.cred.now c.args.call.now w.walked w.inode w.blocks wanting_mid),
    )

pub returns-in-Ok-clause-served : goal.returns-in-Ok-clause-served
returns-in-Ok-clause-served c tree began =
    let s = c.args.store.now in
    let mid = c.ask-2.new.store in
    let later = c.take_wanted.new.store in
    let now = c.carry_out.new.store in
    let w = c.in-Wants in
    let same = c.in_ok-reply.ensures.unchanged in
    let hand = c.in_ok-hand-in-Wants.hand in
    let wanting = wants_it s.geometry s.image.items tree c.args.cred.now c.args.call.now c.new.result c.new.ensures c.in_ok-reply.field-0 began (c.in_ok-reply.ensures.answer tree)
    w.walked w.inode w.blocks w.is in
    let stands = stands_there s.geometry mid.geometry s.image.items mid.image.items tree [] same.geometry same.content began in
    let wanting_mid = wants_there s.geometry mid.geometry tree c.args.cred.now c.args.call.now w.walked w.inode w.blocks same.geometry wanting in
    let has = c.in_ok-hand-in-Wants.ensures.hand tree stands (enough_there mid.geometry tree c.args.cred.now c.args.call.now w.walked w.inode w.blocks wanting_mid) in
    let wanting_later = wants_there mid.geometry later.geometry tree c.args.cred.now c.args.call.now w.walked w.inode w.blocks c.in_ok-hand-in-Wants.ensures.geometry wanting_mid in
    let done = c.in-Ok.ensures.done tree w.inode w.blocks wanting_later has in
    served_at s.geometry later.geometry now.geometry c.args.moment tree c.args.cred.now c.args.call.now w.walked w.inode w.blocks hand c.in-Ok.reply now.image.items
    (c.in_ok-hand-in-Wants.ensures.geometry ∙ same.geometry) c.in-Ok.ensures.geometry wanting_later has.inode has.usable done.0 done.1

pub give_back-requires : goal.give_back-requires
give_back-requires c =
    let s = c.args.store.now in
    let mid = c.ask-2.new.store in
    let w = c.in-Wants in
    let same = c.in_ok-reply.ensures.unchanged in
    let tree = c.requires.stands.0 in
    let wanting = wants_it s.geometry s.image.items tree c.args.cred.now c.args.call.now c.new.result c.new.ensures c.in_ok-reply.field-0 c.requires.stands.1 (c.in_ok-reply.ensures.answer tree)
    w.walked w.inode w.blocks w.is in
    let stands = stands_there s.geometry mid.geometry s.image.items mid.image.items tree [] same.geometry same.content c.requires.stands.1 in
    let wanting_mid = wants_there s.geometry mid.geometry tree c.args.cred.now c.args.call.now w.walked w.inode w.blocks same.geometry wanting in
    let has = c.in_ok-hand-in-Wants.ensures.hand tree stands (enough_there mid.geometry tree c.args.cred.now c.args.call.now w.walked w.inode w.blocks wanting_mid) in
    let still = c.in-Err.ensures.none tree w.inode w.blocks has in
    record { holds = still.holds; stands = (tree, [], still.stands) }

pub returns-clause-none : goal.returns-clause-none
returns-clause-none c tree began =
    let s = c.args.store.now in
    let mid = c.ask-2.new.store in
    let w = c.in-Wants in
    let same = c.in_ok-reply.ensures.unchanged in
    let wanting = wants_it s.geometry s.image.items tree c.args.cred.now c.args.call.now c.new.result c.new.ensures c.in_ok-reply.field-0 began (c.in_ok-reply.ensures.answer tree)
    w.walked w.inode w.blocks w.is in
    let stands = stands_there s.geometry mid.geometry s.image.items mid.image.items tree [] same.geometry same.content began in
    let wanting_mid = wants_there s.geometry mid.geometry tree c.args.cred.now c.args.call.now w.walked w.inode w.blocks same.geometry wanting in
    let has = c.in_ok-hand-in-Wants.ensures.hand tree stands (enough_there mid.geometry tree c.args.cred.now c.args.call.now w.walked w.inode w.blocks wanting_mid) in
    c.give_back.ensures.stands tree (c.in-Err.ensures.none tree w.inode w.blocks has).stands
