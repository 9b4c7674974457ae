use Rattle.std.proofs.Common.{◌≡◌, ◌*◌, map}
use Rattle.std.specs.List.{range_with_len}
use Rattle.lufs_base.specs.Fields.{u32_at}
use Rattle.indirect_blocks.proofs.pointers.read_pointers.Given as goal

-- the numbers so far
abbrev pub invariant-loop-i : goal.invariant-loop-i
invariant-loop-i l = l.numbers.items ≡ map (λ i. u32_at l.bytes (4 * i)) (range_with_len 0 l.i)
