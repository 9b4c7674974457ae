-- When the numbers of a pointer block are needed.
use Rattle.std.specs.Prelude.{ℕ, ◌==◌, nat_lt, Bool, not, ◌&&◌, slice_index}
use Rattle.volume_model.specs.declared.inode.Dinode.{Dinode}
use Rattle.volume_model.specs.Sound.{direct_blocks}

-- so many numbers of the inode are more than the direct ones, and its pointer block is one of so many blocks
abbrev pub needs_pointers : (total : ℕ) → Dinode → (count : ℕ) → Bool
needs_pointers total d count = nat_lt direct_blocks count && (not (slice_index d.indirect 0 == 0) && nat_lt (slice_index d.indirect 0) total)
