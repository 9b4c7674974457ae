-- Which blocks a reading names for the bytes of files.
use Rattle.std.specs.Prelude.{◌≡◌, ℕ, ◌+◌, ◌*◌, ◌/◌, ◌%◌, ◌==◌, nat_lt, not, ◌&&◌, if◌then◌else◌, slice_index, Option, Some, None, option_and_then}
use Rattle.volume_model.specs.Format.{Image, is_file}
use Rattle.volume_model.specs.Sound.{UsedInode, Reading, used_at, size_in_blocks, FileNode, File, Tree}
use Rattle.history_model.specs.CrashSafety.{HasByte}

-- the block at this index of an inode, if it is a file and has one
abbrev pub block_at_index : UsedInode → (index : ℕ) → Option ℕ
block_at_index u index =
    if is_file u.inode.mode && (nat_lt index (size_in_blocks u.inode.size) && not (slice_index u.numbers index == 0)) then Some (slice_index u.numbers index) else None

-- the block that the reading names at this index of file `ino`
abbrev pub named_block : Reading → (ino index : ℕ) → Option ℕ
named_block r ino index = option_and_then (λ u. block_at_index u index) (used_at r ino)

-- byte p of file `ino` is in block b
abbrev pub Names : Reading → (ino p b : ℕ) → Type 0
Names r ino p b = named_block r ino (p / 4096) ≡ Some b

-- what stands in block b at the place of byte p of a file
abbrev pub byte_in : Image → (b p : ℕ) → ℕ
byte_in image b p = slice_index image (4096 * b + p % 4096)

-- the tree has this value at byte p of file `ino`
pub record HasByteOf (tree : Tree) (ino p value : ℕ) : Type 0 where
  pub file : FileNode
  pub is : tree ino ≡ Some (File file)
  pub has : HasByte file p value

-- a block that both readings name, they name at one place
abbrev pub AgreeOnPlaces : Reading → Reading → Type 0
AgreeOnPlaces r s = (ino index other at b : ℕ) → named_block r ino index ≡ Some b → named_block s other at ≡ Some b → (ino ≡ other) × (index ≡ at)
