use Rattle.std.proofs.Common.{◌≡◌, ℕ, ◌+◌, ◌*◌, ◌^◌, ◌<◌, length, get_or}
use Rattle.lufs_base.specs.Fields.{u32_at}
use Rattle.inode_table.proofs.numbers.get_numbers.Given as goal

abbrev pub invariant-loop-i : goal.invariant-loop-i
invariant-loop-i g l = (length l.numbers ≡ g.row.N) × ((k : ℕ) → k < l.i → get_or l.numbers k 0 ≡ u32_at l.bytes (l.at + 4 * k)) × ((k : ℕ) → get_or l.numbers k 0 < 2 ^ 32)
