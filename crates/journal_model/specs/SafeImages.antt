-- What each image that a crash may leave has of a journal.
use Rattle.std.specs.Prelude.{◌≡◌, ◌<◌, ◌⊎◌, ℕ, ◌+◌, ◌*◌, true, List, Some}
use Rattle.lufs_base.specs.Layout.{header_sector}
use Rattle.lufs_base.specs.declared.geometry.Geometry.{Geometry}
use Rattle.volume_model.specs.declared.log.Header.{Header}
use Rattle.volume_model.specs.declared.log.Tx.{Tx}
use Rattle.volume_model.specs.Format.{Image, sector, geometry_of}
use Rattle.volume_model.specs.Log.{header_of}
use Rattle.log_laws.specs.LogRing.{IsLogRing}
use Rattle.log_laws.specs.LogOnImage.{ring_sector}
use Rattle.journal_model.specs.Journals.{Journal}
use Rattle.journal_model.specs.Versions.{Version, is_logged, written_txs, header_after, txs_after, txs_of}
use Rattle.journal_model.specs.LaidBlocks.{replayed_byte}
use Rattle.journal_model.specs.BlockRoles.{Role, Metadata, Roles}
use Rattle.journal_model.specs.Batches.{home_count, trimmed_count}

-- the header of the log in this image
abbrev pub HasHeader : Geometry → Image → Header → Type 0
HasHeader g image h = header_of g (sector image (header_sector g)) ≡ Some h

-- A replay of these transactions on the image gives the metadata that a replay of all of them gives on what stands at home.
pub record GivesMetadata (role : ℕ → Role) (home : Image) (all : List Tx) (image : Image) (txs : List Tx) : Type 0 where
  pub each : (b n i : ℕ) → role b ≡ Metadata n → i < n → replayed_byte image txs (4096 * b + i) ≡ replayed_byte home all (4096 * b + i)

-- The header names the oldest transaction or the first one after the batch; the ring has the committed transactions, and
-- what it likes of the sealed one once that is being written; and a replay gives each version that the log has, with the
-- batch or without it.
pub record IsSafeImage (g : Geometry) (roles : Roles) (home : Image) (j : Journal) (image : Image) : Type 0 where
  pub geometry : geometry_of image ≡ Some g
  pub header : HasHeader g image j.oldest ⊎ HasHeader g image (header_after g j (trimmed_count j.roll))
  pub ring : IsLogRing g j.oldest (ring_sector g image) j.committed (written_txs j)
  pub whole : (v : Version) → is_logged v ≡ true → GivesMetadata (roles v) home (txs_of g j v) image (txs_of g j v)
  pub rest : (v : Version) → is_logged v ≡ true → GivesMetadata (roles v) home (txs_of g j v) image (txs_after g j (home_count j.roll) v)
