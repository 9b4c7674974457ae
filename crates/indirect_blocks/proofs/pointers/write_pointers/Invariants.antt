use Rattle.std.proofs.Common.{◌≡◌, take}
use Rattle.lufs_base.specs.Fields.{put_at}
use Rattle.volume_model.specs.Format.{pointer_bytes}
use Rattle.indirect_blocks.proofs.pointers.write_pointers.Given as goal

-- the numbers so far are written
abbrev pub invariant-loop-i : goal.invariant-loop-i
invariant-loop-i l = l.out ≡ put_at l.initial.out 0 (pointer_bytes (take l.i l.pointers-inside.numbers.items))
