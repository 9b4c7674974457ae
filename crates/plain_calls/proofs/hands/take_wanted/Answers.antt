use Rattle.meta_store.specs.Changing.{no_changes}
use Rattle.plain_calls.proofs.Taken.{got_it, has_hand, has_no_hand}
use Rattle.plain_calls.proofs.hands.take_wanted.Goals as goal

pub returns-then-blocks-eq0-clause-hand : goal.returns-then-blocks-eq0-clause-hand
returns-then-blocks-eq0-clause-hand c tree stands has =
    has_no_hand c.args.store.now.geometry c.args.store.now.image.items _ tree c.args.inode c.args.blocks c.empty_hand.result c.empty_hand.ensures c.if-not-inode.true c.if-blocks-eq0.true stands

pub unreachable-requires : goal.unreachable-requires
unreachable-requires c =
    let s = c.args.store.now in
    let enough = c.requires.enough in
    let tree = enough.0 in
    c.in_default.not-Got _
    (got_it s.geometry s.geometry s.image.items s.image.items no_changes no_changes tree c.args.inode c.args.blocks c.requires.geometry enough.1 enough.2 c.new.result c.new.ensures c.in_ok-hand.field-0
    (c.in_ok-hand.ensures.answer tree))

pub returns-clause-hand : goal.returns-clause-hand
returns-clause-hand c tree stands has =
    let s = c.args.store.now in
    let now = c.take-2.new.store in
    has_hand s.geometry now.geometry s.image.items now.image.items _ _ tree c.args.inode c.args.blocks c.requires.geometry stands has c.new.result c.new.ensures c.in_ok-hand.field-0
    (c.in_ok-hand.ensures.answer tree) c.in-Got.hand c.in-Got.is c.in_ok-hand.ensures.takes
