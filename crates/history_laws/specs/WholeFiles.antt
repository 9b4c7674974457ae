-- Trees whose files have whole blocks.
use Rattle.std.specs.Prelude.{◌≡◌, ℕ, length, Some, IfSome}
use Rattle.volume_model.specs.Sound.{FileNode, File, Tree}
use Rattle.history_model.specs.FileBytes.{block_at}

-- each block that the file has is of 4,096 bytes
abbrev pub IsWholeFile : FileNode → Type 0
IsWholeFile file = (index : ℕ) → IfSome (block_at file index) (λ bytes. length bytes ≡ 4096)

abbrev pub HasWholeFiles : Tree → Type 0
HasWholeFiles tree = (ino : ℕ) (file : FileNode) → tree ino ≡ Some (File file) → IsWholeFile file
