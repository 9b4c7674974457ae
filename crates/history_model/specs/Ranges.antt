-- Trees whose links and sizes are in their ranges.
use Rattle.std.specs.Prelude.{◌≡◌, ◌≢◌, ◌≤◌, ℕ, length, true, Some, is_some}
use Rattle.lufs_base.specs.declared.geometry.Geometry.{Geometry}
use Rattle.tree_types.specs.declared.call.Call.{Call}
use Rattle.tree_types.specs.declared.call.Call.TheVariants as call
use Rattle.volume_model.specs.Sound.{Node, File, Directory, Link, Tree}
use Rattle.history_model.specs.Places.{links_in}
use Rattle.history_model.specs.FileBytes.{greatest_size}
use Rattle.history_model.specs.Refusals.{most_links, most_chunks}

-- each inode in use has a link, and no more than it may have (inode 0 stands for none)
abbrev pub HasLinksInRange : Geometry → Tree → Type 0
HasLinksInRange g tree = (i : ℕ) → i ≢ 0 → is_some (tree i) ≡ true → (1 ≤ links_in g tree i) × (links_in g tree i ≤ most_links)

-- the most bytes that the text of a link may have
abbrev pub longest_text : ℕ
longest_text = 1024

-- A file is no larger than it may be; a directory has a chunk, and no more than it may have; so it is with the bytes of the
-- text of a link.
abbrev pub IsSizeInRange : Node → Type 0
IsSizeInRange (File file) = file.size ≤ greatest_size
IsSizeInRange (Directory directory) = (1 ≤ length directory.chunks) × (length directory.chunks ≤ most_chunks)
IsSizeInRange (Link link) = (1 ≤ length link.text) × (length link.text ≤ longest_text)

abbrev pub HasSizesInRange : Tree → Type 0
HasSizesInRange tree = (i : ℕ) (node : Node) → tree i ≡ Some node → IsSizeInRange node

-- a link that the call makes is given a text
abbrev pub HasText : Call → Type 0
HasText (call.Symlink text path) = 1 ≤ length text
HasText other = Unit {0}
