use Rattle.new_volume.proofs.NewOpens.{new_stands, new_opens, new_checks}
use Rattle.new_volume.proofs.laws.new_volumes.Goals as goal

pub returns-clause-tree : goal.returns-clause-tree
returns-clause-tree c g moment old new ok fits is = new_stands g moment ok fits old new is

pub returns-clause-opens : goal.returns-clause-opens
returns-clause-opens c g moment old new ok fits room is = new_opens g moment ok fits old new is room

pub returns-clause-check : goal.returns-clause-check
returns-clause-check c g moment old new ok fits room is = new_checks g moment ok fits old new is room
