use Rattle.std.proofs.Common.{◌≡◌, length, take}
use Rattle.std.specs.List.{flat_map}
use Rattle.volume_model.specs.Log.{delta_record}
use Rattle.log_format.proofs.transaction.put_deltas.Given as goal

-- the records of the deltas so far stand at the front
abbrev pub invariant-loop-delta : goal.invariant-loop-delta
invariant-loop-delta l = record {
  end : l.at ≡ length (flat_map delta_record (take l.delta-index l.deltas));
  size : length l.out ≡ length l.fn.out;
  front : take l.at l.out ≡ flat_map delta_record (take l.delta-index l.deltas);
}
