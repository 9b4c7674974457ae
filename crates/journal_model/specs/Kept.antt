-- What a journal keeps besides the disk: of its versions, of a batch, of the owners of blocks, and of its room.
use Rattle.std.specs.Prelude.{◌≡◌, ◌<◌, ◌≤◌, ℕ, ◌+◌, ◌*◌, ◌^◌, true, false, ◌||◌, [], length, take, IsSome}
use Rattle.lufs_base.specs.Layout.{blocks_of, group_start}
use Rattle.lufs_base.specs.declared.geometry.Geometry.{Geometry}
use Rattle.volume_model.specs.Log.{MayBeHeader, AreLoggable, live_deltas}
use Rattle.volume_model.specs.Sound.{is_among}
use Rattle.log_laws.specs.LogRing.{AreNext}
use Rattle.journal_model.specs.Journals.{Batch, Roll, Idle, Writing, Home, Trimmed, Live, Freed, Journal}
use Rattle.journal_model.specs.Versions.{Version, Published, Sealed, Running, sealed_txs, next_header, later_of, txs_after, txs_of}
use Rattle.journal_model.specs.LaidBlocks.{given_by, is_laid_by, is_cancelled_in, is_cancelled_by}
use Rattle.journal_model.specs.BlockRoles.{Role, Metadata, Roles, is_metadata, is_claimed}
use Rattle.journal_model.specs.Batches.{is_held, is_freed_owner}
use Rattle.journal_model.specs.Room.{IsOpen, HasSpaceFor}

-- A block that a version claims has the same role in a later one, or is unclaimed there.
pub record IsNextRole (before after : Role) : Type 0 where
  pub same : is_claimed before ≡ true → is_claimed after ≡ true → after ≡ before

-- What the deltas of each version lie on, and how the versions agree.
pub record HaveRoles (g : Geometry) (roles : Roles) (j : Journal) : Type 0 where
  pub loggable : AreLoggable g j.running
  -- claimed blocks lie in the groups, and metadata in its block
  pub places : (v : Version) (b : ℕ) → is_claimed (roles v b) ≡ true → (group_start g 0 ≤ b) × (b < blocks_of g)
  pub sizes : (v : Version) (b n : ℕ) → roles v b ≡ Metadata n → n ≤ 4096
  -- what a version lays bytes over is its metadata
  pub laid : (v : Version) (b : ℕ) → is_laid_by (txs_of g j v) b ≡ true → is_metadata (roles v b) ≡ true
  -- and covers all of what isn't published metadata
  pub covered : (v : Version) (b n i : ℕ) → roles v b ≡ Metadata n → is_metadata (roles Published b) ≡ false → i < n
      → IsSome (given_by (live_deltas (txs_of g j v)) (4096 * b + i))
  -- what a version's transactions after the published ones cancel is unclaimed in it
  pub cancelled : (v : Version) (b : ℕ) → is_cancelled_by (later_of g j v) b ≡ true → is_claimed (roles v b) ≡ false
  pub sealed : (b : ℕ) → IsNextRole (roles Published b) (roles Sealed b)
  pub running : (b : ℕ) → IsNextRole (roles Sealed b) (roles Running b)
  -- what the sealed version freed isn't claimed again before it is published
  pub freed : (b : ℕ) → is_claimed (roles Published b) ≡ true → is_claimed (roles Sealed b) ≡ false → is_claimed (roles Running b) ≡ false

-- A batch is of the oldest committed transactions.
pub record IsBatch (g : Geometry) (roles : Roles) (j : Journal) (batch : Batch) : Type 0 where
  pub some : 1 ≤ batch.count
  pub committed : batch.count ≤ length j.committed
  pub held : (b : ℕ) → is_among b batch.held ≡ is_laid_by (take batch.count j.committed) b
  pub left : (b : ℕ) → is_among b batch.left ≡ true → is_among b batch.held ≡ true
  -- a held block that a later transaction cancels isn't claimed again
  pub cancelled : (v : Version) (b : ℕ) → is_among b batch.held ≡ true → is_cancelled_by (txs_after g j batch.count v) b ≡ true
      → is_claimed (roles v b) ≡ false

-- The batch of a roll; all of it is written once it is kept at home.
abbrev pub IsRoll : Geometry → Roles → Journal → Roll → Type 0
IsRoll g roles j Idle = Unit {0}
IsRoll g roles j (Writing batch) = IsBatch g roles j batch
IsRoll g roles j (Home batch) = IsBatch g roles j batch × (batch.left ≡ [])
IsRoll g roles j (Trimmed batch) = IsBatch g roles j batch × (batch.left ≡ [])

-- no version claims the block, and no transaction that isn't committed cancels it
pub record IsGone (g : Geometry) (roles : Roles) (j : Journal) (b : ℕ) : Type 0 where
  pub unclaimed : (v : Version) → is_claimed (roles v b) ≡ false
  pub uncancelled : is_cancelled_by (later_of g j Running) b ≡ false

-- The owners agree with the versions.
pub record HaveOwners (g : Geometry) (roles : Roles) (j : Journal) : Type 0 where
  pub claimed : (b : ℕ) → is_claimed (roles Running b) ≡ true → j.owners b ≡ Live
  -- what the running version doesn't claim is freed, or gone
  pub gone : (b : ℕ) → is_claimed (roles Running b) ≡ false → is_freed_owner (j.owners b) ≡ false → IsGone g roles j b
  -- a block in a hand is held by no batch
  pub in_hand : (b : ℕ) → is_claimed (roles Running b) ≡ false → j.owners b ≡ Live → is_held j b ≡ false
  -- what the running transaction frees has its number
  pub freed_last : (b : ℕ) → is_claimed (roles Running b) ≡ false → is_claimed (roles Sealed b) || is_cancelled_in j.running b ≡ true
      → j.owners b ≡ Freed (next_header g j).tid
  -- what is freed has the number of a transaction that isn't committed
  pub freed_low : (b tid : ℕ) → j.owners b ≡ Freed tid → j.oldest.tid + length j.committed ≤ tid
  pub freed_high : (b tid : ℕ) → j.owners b ≡ Freed tid → tid ≤ (next_header g j).tid

-- There is room in the ring for what is sealed and what is open, and a number for the next transaction.
pub record HasRoom (g : Geometry) (j : Journal) : Type 0 where
  pub oldest : MayBeHeader g j.oldest
  pub sealed : AreNext g j.oldest j.committed (sealed_txs j)
  pub number : (next_header g j).tid < 2 ^ 32
  pub fits : IsOpen j → HasSpaceFor g j 0
  pub unspent : j.members ≡ 0 → j.unspent ≡ 0
