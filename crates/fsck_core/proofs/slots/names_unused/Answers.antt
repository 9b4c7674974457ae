use Rattle.std.proofs.Common.{◌∙◌}
use Rattle.fsck_core.proofs.SlotsInBytes.{unused_entries}
use Rattle.fsck_core.proofs.slots.names_unused.Goals as goal

pub returns : goal.returns
returns c = c.has_unused_named.ensures ∙ unused_entries c.args.inodes.now c.args.slots.now
