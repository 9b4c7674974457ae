use Rattle.std.proofs.Common.{◌≡◌, ◌++◌, List, vec_len, option_map}
use Rattle.volume_model.specs.declared.directory.Slot.{Slot}
use Rattle.dir_reads.specs.Names.{names_in, PutsBefore}
use Rattle.dir_reads.proofs.listing.put_slots.Given as goal

-- the slots that were taken are done
abbrev pub invariant-loop-slot : goal.invariant-loop-slot
invariant-loop-slot l = record {
  done : List Slot;
  slots : l.initial.slots.items ≡ l.slots.items ++ done;
  names : PutsBefore (names_in (option_map (λ n. n.now) l.after) done) l.most l.initial.names.items l.names.items;
}

abbrev pub decreases-loop-slot : goal.decreases-loop-slot
decreases-loop-slot l = vec_len l.slots
