use Rattle.std.proofs.Common.{◌≡◌, ℕ, ◌*◌, ◌<◌, length, get_or}
use Rattle.lufs_base.specs.Fields.{u32_at}
use Rattle.fsck_core.proofs.numbers.read_pointers.Given as goal

-- the numbers so far are there
abbrev pub invariant-loop-i : goal.invariant-loop-i
invariant-loop-i l = record {
  size : length l.out ≡ length l.initial.out;
  are : (k : ℕ) → k < l.i → get_or l.out k 0 ≡ u32_at l.bytes (4 * k);
}
