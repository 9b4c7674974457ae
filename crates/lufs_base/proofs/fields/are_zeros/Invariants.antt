use Rattle.std.proofs.Common.{◌≡◌, take}
use Rattle.lufs_base.specs.Fields.{are_zeros}
use Rattle.lufs_base.proofs.fields.are_zeros.Given as goal

abbrev pub invariant-loop-b : goal.invariant-loop-b
invariant-loop-b l = l.are ≡ are_zeros (take l.b-index l.bytes)
