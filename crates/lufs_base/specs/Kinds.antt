-- The kinds of delta.
use Rattle.std.specs.Prelude.{Bool, true, false}
use Rattle.lufs_base.specs.declared.delta.DeltaKind.{DeltaKind}
use Rattle.lufs_base.specs.declared.delta.DeltaKind.TheVariants.{Group, Inode, Chunk, Pointers, Zero, LinkText, Cancel}

-- whether the bytes of a delta stand in the log
abbrev pub has_bytes : DeltaKind → Bool
has_bytes Group = true
has_bytes Inode = true
has_bytes Chunk = true
has_bytes Pointers = true
has_bytes Zero = false
has_bytes LinkText = true
has_bytes Cancel = false

abbrev pub is_zero_block : DeltaKind → Bool
is_zero_block Zero = true
is_zero_block kind = false

abbrev pub is_cancel : DeltaKind → Bool
is_cancel Cancel = true
is_cancel kind = false
