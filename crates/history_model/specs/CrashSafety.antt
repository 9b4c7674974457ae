-- Crash safety: what mounting gives after a crash at any moment of a session.
use Rattle.std.specs.Prelude.{◌≡◌, ◌≤◌, ◌<◌, ◌⊎◌, ℕ, ◌/◌, ◌%◌, true, map, slice_index, Some, IfSome, IsSomeAnd, Contains}
use Rattle.lufs_base.specs.declared.geometry.Geometry.{Geometry}
use Rattle.volume_model.specs.Format.{Image, block}
use Rattle.volume_model.specs.Log.{recovered}
use Rattle.volume_model.specs.Crash.{Record, Outcome}
use Rattle.volume_model.specs.Sound.{UsedInode, reading_of, used_at, FileNode, File, Tree, shape_of, MountsAs, HasNoLaterIdent}
use Rattle.history_model.specs.FileBytes.{block_at}
use Rattle.history_model.specs.Histories.{History, entry_at, replay_of}
use Rattle.history_model.specs.Touched.{Settled}

-- the byte at p of file `ino` in these blocks, in the block that its record names for that index
abbrev pub byte_named : (content : Image) → (u : UsedInode) → (p : ℕ) → ℕ
byte_named content u p = slice_index (block content (slice_index u.numbers (p / 4096))) (p % 4096)

-- byte p of the file has this value, in a block that it claims and below its size
pub record HasByte (file : FileNode) (p value : ℕ) : Type 0 where
  pub below : p < file.size
  pub claimed : IsSomeAnd (block_at file (p / 4096)) (λ bytes. slice_index bytes (p % 4096) ≡ value)

-- The recovered content has this value at byte p of file `ino`.
abbrev pub HasKept : Geometry → (content : Image) → (ino p value : ℕ) → Type 0
HasKept g content ino p value = IsSomeAnd (used_at (reading_of g (block content)) ino) (λ u. byte_named content u p ≡ value)

-- What a crash left stands for the session's first k entries: mounting gives the shape of their tree; each synchronous
-- entry that was told by then is among them; settled bytes are those of that tree; and no sector of the log's ring is of a
-- later epoch.
pub record RecoversTo (g : Geometry) (moment : ℕ) (opening : Tree) (h : History) (n : ℕ) (image : Image) (k : ℕ) : Type 0 where
  pub mounts : MountsAs image (shape_of (replay_of g moment opening h.entries k))
  pub told : (i : ℕ) → IfSome (entry_at h.entries i) (λ e. e.sync ≡ true → IfSome e.told (λ told. told ≤ n → i ≤ k))
  pub bytes : (ino p value : ℕ) (file : FileNode) → replay_of g moment opening h.entries k ino ≡ Some (File file) → HasByte file p value
      → Settled g moment opening h.entries n ino p → IsSomeAnd (recovered g image) (λ content. HasKept g content ino p value)
  pub idents : HasNoLaterIdent g image

-- k is 0, or the boundary of a commit
abbrev pub IsBoundary : History → (k : ℕ) → Type 0
IsBoundary h k = (k ≡ 0) ⊎ Contains (map (λ c. c.boundary) h.commits) k

-- Whatever a crash after n listed calls leaves recovers to a boundary.
abbrev pub IsCrashSafeAt : Geometry → (moment : ℕ) → (opening : Tree) → History → Record → (n : ℕ) → Type 0
IsCrashSafeAt g moment opening h r n =
    (image : Image) → Outcome r n image → (k : ℕ) × IsBoundary h k × RecoversTo g moment opening h n image k

-- the same of each moment from the first to the last of these numbers of listed calls
abbrev pub CrashSafe : Geometry → (moment : ℕ) → (opening : Tree) → History → Record → (first last : ℕ) → Type 0
CrashSafe g moment opening h r first last = (n : ℕ) → first ≤ n → n ≤ last → IsCrashSafeAt g moment opening h r n
