-- What a mount of an image that a crash left recovers.
use Rattle.std.specs.Prelude.{◌≡◌, ◌<◌, ◌≤◌, ◌⊎◌, ℕ, ◌+◌, ◌*◌, true, IfSome, slice_index}
use Rattle.lufs_base.specs.declared.geometry.Geometry.{Geometry}
use Rattle.volume_model.specs.declared.log.Header.{Header}
use Rattle.volume_model.specs.Format.{Image}
use Rattle.volume_model.specs.Log.{Listed, WithHeader, log_of}
use Rattle.volume_model.specs.Sound.{HasNoLaterIdent}
use Rattle.journal_model.specs.Journals.{Journal}
use Rattle.journal_model.specs.Versions.{Version, Sealed, is_logged, txs_after, txs_of}
use Rattle.journal_model.specs.LaidBlocks.{replayed_byte}
use Rattle.journal_model.specs.BlockRoles.{FileBytes, Roles}
use Rattle.journal_model.specs.Batches.{trimmed_count}
use Rattle.journal_model.specs.SafeImages.{GivesMetadata}

-- A mount of the image lists the transactions of this version, or those after the batch, and replays its metadata; the
-- bytes of files stay as they are. It is the sealed version only once a sector of that may be written.
pub record Recovers (g : Geometry) (roles : Roles) (home : Image) (j : Journal) (image : Image) (v : Version) : Type 0 where
  pub header : Header
  pub count : ℕ
  pub trimmed : (count ≡ 0) ⊎ (count ≡ trimmed_count j.roll)
  pub log : log_of g image ≡ WithHeader header (Listed (txs_after g j count v))
  pub logged : is_logged v ≡ true
  pub sealed : v ≡ Sealed → IfSome j.sealed (λ s. 1 ≤ s.written)
  pub metadata : GivesMetadata (roles v) home (txs_of g j v) image (txs_after g j count v)
  pub files : (b i : ℕ) → roles v b ≡ FileBytes → i < 4096 → replayed_byte image (txs_after g j count v) (4096 * b + i) ≡ slice_index image (4096 * b + i)
  pub idents : HasNoLaterIdent g image
