use Rattle.std.proofs.Common.{◌≡◌, ◌≤◌, ◌-◌, ◌*◌, ◌++◌, length, drop, option_map}
use Rattle.volume_model.specs.Format.{slots_in}
use Rattle.dir_blocks.proofs.chunk.read_chunk.Given as goal

-- the slots so far stand before those that the rest of the bytes gives
abbrev pub invariant-loop-at : goal.invariant-loop-at
invariant-loop-at l = record {
  inside : l.at ≤ length l.bytes;
  few : 12 * length l.slots.items ≤ l.at;
  slots : option_map (λ more. l.slots.items ++ more) (slots_in (512 - length l.slots.items) (drop l.at l.bytes)) ≡ slots_in 512 l.bytes;
}

abbrev pub decreases-loop-at : goal.decreases-loop-at
decreases-loop-at l = length l.bytes - l.at
