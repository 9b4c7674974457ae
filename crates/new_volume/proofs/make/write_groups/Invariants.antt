use Rattle.new_volume.proofs.GroupLoop.{HasGroups}
use Rattle.new_volume.proofs.make.write_groups.Given as goal

abbrev pub invariant-loop-n : goal.invariant-loop-n
invariant-loop-n g l = HasGroups l.g l.first l.other l.n (g.D.Disk.told l.fn.disk) (g.D.Disk.told l.disk)
