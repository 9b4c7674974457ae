use Rattle.std.proofs.Common.{ap, ◌∙◌, length}
use Rattle.std.specs.Prelude.{IsOk, is_ok}
use Rattle.sector_disk.proofs.MadeCalls.{made_of, makes_all}
use Rattle.new_volume.proofs.Groups.{length-metadata}
use Rattle.new_volume.proofs.MadeImage.{length-log}
use Rattle.new_volume.proofs.NewBlocks.{room_of_zeros}
use Rattle.new_volume.proofs.MkfsMoments.{makes_of_parts}
use Rattle.new_volume.proofs.make.make_volume.Goals as goal

pub write_volume-requires-clause-log : goal.write_volume-requires-clause-log
write_volume-requires-clause-log g c = ap length (c.deref.ensures.value ∙ c.in_ok-log.ensures) ∙ length-log c.args.g.now c.requires.geometry

pub write_volume-requires-clause-first : goal.write_volume-requires-clause-first
write_volume-requires-clause-first g c = ap length (c.deref-2.ensures.value ∙ c.in_ok-first.ensures) ∙ length-metadata c.args.g.now c.args.moment 0 c.requires.geometry

pub write_volume-requires-clause-other : goal.write_volume-requires-clause-other
write_volume-requires-clause-other g c = room_of_zeros c.args.g.now c.deref_mut.result.now (c.deref_mut.ensures.value ∙ c.in_ok-other.ensures)

pub returns-clause-calls : goal.returns-clause-calls
returns-clause-calls g c =
    let makes = makes_of_parts c.write_volume.result c.args.g.now c.args.moment c.deref.result.now c.deref-2.result.now (g.D.Disk.told c.args.disk.now) (g.D.Disk.told c.write_volume.new.disk)
    (c.deref.ensures.value ∙ c.in_ok-log.ensures) (c.deref-2.ensures.value ∙ c.in_ok-first.ensures) c.write_volume.ensures.calls in
    let went : IsOk c.write_volume.result = ap is_ok c.in_ok-write_volume.was in
    makes_all _ _ _ c.requires.counted (made_of c.write_volume.result _ _ _ went makes)
