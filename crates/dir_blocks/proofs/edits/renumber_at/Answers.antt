use Rattle.dir_blocks.proofs.ChangedSlots.{renumbered}
use Rattle.dir_blocks.proofs.edits.renumber_at.Goals as goal

pub returns : goal.returns
returns c = renumbered c.args.slots.now.items c.args.place c.args.ino c.index_mut-slot.result.now c.requires c.index_mut-slot.ensures.value
