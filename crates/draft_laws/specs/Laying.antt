-- What one more delta lays over the content that a change has made so far.
use Rattle.std.specs.Prelude.{ℕ, ◌/◌, ◌%◌, if◌then◌else◌, List, replicate}
use Rattle.lufs_base.specs.declared.delta.Delta.{Delta}
use Rattle.volume_model.specs.Format.{Blocks}
use Rattle.volume_model.specs.Log.{is_zero_block}
use Rattle.volume_laws.specs.Changes.{with_bytes}

-- the bytes that a delta lays: zeros of a zero block, and else its own
abbrev pub bytes_laid : Delta → List ℕ
bytes_laid d = if is_zero_block d.kind then replicate d.len 0 else d.bytes

-- the blocks with a delta laid over the part of one block that it covers
abbrev pub with_laid : Blocks → Delta → Blocks
with_laid blocks d = with_bytes blocks (d.home / 4096) (d.home % 4096) (bytes_laid d)
