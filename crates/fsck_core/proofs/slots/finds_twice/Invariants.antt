use Rattle.std.proofs.Common.{◌≡◌, map, take, false}
use Rattle.volume_model.specs.Sound.{has_twice}
use Rattle.fsck_core.specs.Slots.{slot_of, used_slots}
use Rattle.fsck_core.proofs.NamesTwice.{FindsNames}
use Rattle.fsck_core.proofs.slots.finds_twice.Given as goal

-- no name stands twice so far, and the set has the names so far
abbrev pub invariant-loop-slot : goal.invariant-loop-slot
invariant-loop-slot l = record {
  once : has_twice (used_slots (take l.slot-index (map slot_of l.slots))) ≡ false;
  names : FindsNames l.names.keys (used_slots (take l.slot-index (map slot_of l.slots)));
}
