-- Writes of bytes of files.
use Rattle.std.specs.Prelude.{◌≡◌, ◌≤◌, ◌<◌, ◌⊎◌, ℕ, ◌+◌, ◌-◌, ◌*◌, ◌%◌, nat_le, nat_lt, ◌&&◌, if◌then◌else◌, true, List, length, slice_index, Option, Some, None, IsSomeAnd}
use Rattle.lufs_base.specs.declared.geometry.Geometry.{Geometry}
use Rattle.tree_types.specs.declared.history.Entry.{Entry}
use Rattle.volume_model.specs.Crash.{Record, present_of}
use Rattle.volume_model.specs.Sound.{Reading, Tree}
use Rattle.history_model.specs.Histories.{entry_at}
use Rattle.history_model.specs.Touched.{touches_byte, tree_before}
use Rattle.journal_model.specs.Versions.{Version}
use Rattle.history_laws.specs.Named.{Names, byte_in}

-- the byte that a write of these sectors gives to an address, if it does
abbrev pub given_to : (first : ℕ) → (bytes : List ℕ) → (address : ℕ) → Option ℕ
given_to first bytes address =
    if nat_le (512 * first) address && nat_lt address (512 * first + length bytes) then Some (slice_index bytes (address - 512 * first)) else None

-- an entry after number k that began after at most n listed calls touches byte p of file `ino`
abbrev pub IsTouchedSince : Geometry → (moment : ℕ) → (opening : Tree) → List Entry → (k n ino p : ℕ) → Type 0
IsTouchedSince g moment opening entries k n ino p =
    (i : ℕ) × (k < i) × IsSomeAnd (entry_at entries i) (λ e. (e.start ≤ n) × (touches_byte (tree_before g moment opening entries i) e ino p ≡ true))

-- In a block that a version names the write gives the byte that is there, or one that an entry under way touches: one after
-- the first k.
abbrev pub WritesTouched : Geometry → (moment : ℕ) → (opening : Tree) → List Entry → Record → (k : ℕ) → (readings : Version → Reading) → (first : ℕ) → (bytes : List ℕ) → Type 0
WritesTouched g moment opening entries r k readings first bytes =
    (v : Version) (ino p b value : ℕ) → Names (readings v) ino p b → given_to first bytes (4096 * b + p % 4096) ≡ Some value
    → (value ≡ byte_in (present_of r) b p) ⊎ IsTouchedSince g moment opening entries k (length r.calls) ino p

-- the write lies in block b
pub record LiesInBlock (start : ℕ) (bytes : List ℕ) (b : ℕ) : Type 0 where
  pub at : 4096 * b ≤ 512 * start
  pub fits : 512 * start + length bytes ≤ 4096 * (b + 1)
