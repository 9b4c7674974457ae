use Rattle.std.proofs.Common.{arith, length-take}
use Rattle.host_io.proofs.PartRead.{past_limit}
use Rattle.host_io.proofs.whole.read_whole.Goals as goal

pub returns-then-room-n : goal.returns-then-room-n
returns-then-room-n g c =
    past_limit c.args.limit c.in-Ok.n c.pieces.bytes.items c.take.new.out (g.S.Source.told c.args.source.now) (g.S.Source.told c.pieces.source) (g.S.Source.told c.take.new.self)
    c.pieces.invariant.part c.in-Ok.ensures.given c.in-Ok.ensures.ok (let room = c.in-Ok.ensures.room in let same = c.take.auto.out in let most = length-take c.min-most.result c.pieces.piece in omega (arith, room, same, most))
