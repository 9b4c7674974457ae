use Rattle.std.proofs.Common.{◌≡◌, map, take}
use Rattle.std.specs.List.{fold}
use Rattle.fsck_core.specs.NameTables.{with_link, with_name}
use Rattle.fsck_core.specs.Slots.{slot_of}
use Rattle.fsck_core.proofs.names.NameTables.enter.Given as goal

-- the slots so far are entered
abbrev pub invariant-loop-slot : goal.invariant-loop-slot
invariant-loop-slot l = record {
  links : l.self.links.items ≡ fold with_link l.initial.self.links.items (take l.slot-index (map slot_of l.slots));
  namers : l.self.namers.items ≡ fold (with_name l.i) l.initial.self.namers.items (take l.slot-index (map slot_of l.slots));
  parents : l.self.parents.items ≡ l.initial.self.parents.items;
}
