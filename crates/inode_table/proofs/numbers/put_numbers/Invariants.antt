use Rattle.std.proofs.Common.{◌≡◌, take}
use Rattle.lufs_base.specs.Fields.{put_at}
use Rattle.volume_model.specs.Format.{numbers_bytes}
use Rattle.inode_table.proofs.numbers.put_numbers.Given as goal

abbrev pub invariant-loop-i : goal.invariant-loop-i
invariant-loop-i l = l.out ≡ put_at l.initial.out l.at (numbers_bytes (take l.i l.numbers))
