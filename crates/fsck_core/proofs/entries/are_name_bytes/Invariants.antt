use Rattle.std.proofs.Common.{◌≡◌, take}
use Rattle.std.specs.List.{list_all}
use Rattle.lufs_base.specs.Name.{is_name_byte}
use Rattle.fsck_core.proofs.entries.are_name_bytes.Given as goal

abbrev pub invariant-loop-b : goal.invariant-loop-b
invariant-loop-b l = l.are ≡ list_all is_name_byte (take l.b-index l.bytes)
