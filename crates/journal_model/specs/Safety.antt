-- A journal is safe: every image that a crash may leave now is, and so are the versions, the batch, the owners and the room.
use Rattle.std.specs.Prelude.{◌≡◌, ◌<◌, ◌≤◌, ℕ, ◌+◌, ◌*◌, true, false, length, take, slice_index, IfSome}
use Rattle.lufs_base.specs.Layout.{group_start, blocks_of}
use Rattle.lufs_base.specs.declared.geometry.Geometry.{Geometry}
use Rattle.volume_model.specs.Format.{Image}
use Rattle.volume_model.specs.Crash.{Record, IsOfSectors, Outcome, present_of}
use Rattle.volume_model.specs.Sound.{is_among}
use Rattle.log_laws.specs.TxsInRing.{IsWrittenUpTo}
use Rattle.log_laws.specs.LogOnImage.{ring_sector}
use Rattle.journal_model.specs.Journals.{Batch, SealedTx, Owner, Live, Journal}
use Rattle.journal_model.specs.Versions.{header_after}
use Rattle.journal_model.specs.LaidBlocks.{replayed_byte}
use Rattle.journal_model.specs.BlockRoles.{Role, Metadata, Roles, is_claimed}
use Rattle.journal_model.specs.Batches.{batch_of, trimmed_count, is_freed_owner}
use Rattle.journal_model.specs.SafeImages.{HasHeader, IsSafeImage}
use Rattle.journal_model.specs.Kept.{HaveRoles, IsRoll, HaveOwners, HasRoom}

-- the sectors of the sealed transaction that were written stand in the ring
pub record IsWrittenSoFar (g : Geometry) (home : Image) (epoch : ℕ) (s : SealedTx) : Type 0 where
  pub within : s.written ≤ s.tx.sectors
  pub stands : IsWrittenUpTo g epoch (ring_sector g home) s.written s.tx

-- the blocks of the batch that were written stand at home as the batch leaves them
abbrev pub IsRolledSoFar : Image → Journal → Batch → Type 0
IsRolledSoFar home j batch = (b i : ℕ) → is_among b batch.held ≡ true → is_among b batch.left ≡ false → i < 4096
    → slice_index home (4096 * b + i) ≡ replayed_byte home (take batch.count j.committed) (4096 * b + i)

-- What was written last is present.
pub record IsPresent (g : Geometry) (home : Image) (j : Journal) : Type 0 where
  pub header : HasHeader g home (header_after g j (trimmed_count j.roll))
  pub sealed : IfSome j.sealed (IsWrittenSoFar g home j.oldest.epoch)
  pub rolled : IfSome (batch_of j.roll) (IsRolledSoFar home j)

pub record IsSafe (g : Geometry) (roles : Roles) (r : Record) (j : Journal) : Type 0 where
  pub sectors : IsOfSectors r
  pub each : (image : Image) → Outcome r (length r.calls) image → IsSafeImage g roles (present_of r) j image
  pub present : IsPresent g (present_of r) j
  pub versions : HaveRoles g roles j
  pub roll : IsRoll g roles j j.roll
  pub owners : HaveOwners g roles j
  pub room : HasRoom g j

-- The roles and owners of a volume that was just mounted: what is claimed lies in the groups and isn't free, and nothing is
-- freed.
pub record MayBegin (g : Geometry) (role : ℕ → Role) (owners : ℕ → Owner) : Type 0 where
  pub places : (b : ℕ) → is_claimed (role b) ≡ true → (group_start g 0 ≤ b) × (b < blocks_of g)
  pub sizes : (b n : ℕ) → role b ≡ Metadata n → n ≤ 4096
  pub claimed : (b : ℕ) → is_claimed (role b) ≡ true → owners b ≡ Live
  pub unclaimed : (b : ℕ) → is_claimed (role b) ≡ false → is_freed_owner (owners b) ≡ false
