-- What a change lays over one block.
use Rattle.std.specs.Prelude.{◌≤◌, ℕ, ◌+◌, ◌*◌, ◌/◌, ◌%◌, ◌==◌, if◌then◌else◌, List, [], ◌∷◌, length}
use Rattle.lufs_base.specs.Fields.{put_at}
use Rattle.meta_store.specs.declared.change.Change.{Change}
use Rattle.meta_store.specs.declared.change.RawWrite.{RawWrite}
use Rattle.meta_store.specs.Laid.{laid_block}
use Rattle.meta_store.specs.Changes.{deltas_on}

-- the raw write lies within one block
abbrev pub IsInOneBlock : RawWrite → Type 0
IsInOneBlock w = 512 * (w.first % 8) + length w.bytes ≤ 4096

-- the bytes of block b with the raw writes of these that lie in it, in order
abbrev pub raw_on : (b : ℕ) → List RawWrite → List ℕ → List ℕ
raw_on b [] bytes = bytes
raw_on b (w ∷ raw) bytes = raw_on b raw (if b == w.first / 8 then put_at bytes (512 * (w.first % 8)) w.bytes else bytes)

-- the bytes of block b with the raw writes and then the deltas of a change laid over them
abbrev pub changed_block : Change → (b : ℕ) → List ℕ → List ℕ
changed_block change b bytes = laid_block (deltas_on change.deltas b) (raw_on b change.raw bytes)
