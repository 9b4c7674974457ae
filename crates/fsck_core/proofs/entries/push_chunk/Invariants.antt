use Rattle.std.proofs.Common.{length, map, ◌-◌}
use Rattle.fsck_core.specs.Slots.{slot_of}
use Rattle.fsck_core.proofs.SlotsInBytes.{Reads}
use Rattle.fsck_core.proofs.entries.push_chunk.Given as goal

abbrev pub invariant-loop-at : goal.invariant-loop-at
invariant-loop-at l = Reads l.bytes (map slot_of l.initial.entries.items) (map slot_of l.entries.items) l.at

abbrev pub decreases-loop-at : goal.decreases-loop-at
decreases-loop-at l = length l.bytes - l.at
