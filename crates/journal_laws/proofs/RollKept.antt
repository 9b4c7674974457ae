-- What a journal keeps besides the disk, once a roll has come further.
use Rattle.std.proofs.Common.{◌≡◌, ◌⊎◌, ℕ, true, false, refl, sym, subst}
use Rattle.std.proofs.lemmas.Bool.{true≢false}
use Rattle.lufs_base.specs.declared.geometry.Geometry.{Geometry}
use Rattle.volume_model.specs.Format.{Image}
use Rattle.journal_model.specs.Journals.{Batch, Roll, Live, Journal}
use Rattle.journal_model.specs.Versions.{Running, header_after, txs_after, txs_of}
use Rattle.journal_model.specs.BlockRoles.{Role, Metadata, FileBytes, Unclaimed, Roles, is_metadata, is_claimed}
use Rattle.journal_model.specs.Batches.{is_held, home_count, trimmed_count}
use Rattle.journal_model.specs.SafeImages.{HasHeader, GivesMetadata, IsSafeImage}
use Rattle.journal_model.specs.Kept.{HaveRoles, IsBatch, IsGone, HaveOwners, HasRoom}

abbrev pub with_roll : Journal → Roll → Journal
with_roll j roll = record j { roll = roll }

pub versions_kept : (g : Geometry) (roles : Roles) (j : Journal) (roll : Roll) → HaveRoles g roles j → HaveRoles g roles (with_roll j roll)
versions_kept g roles j roll h = record {
  loggable = h.loggable;
  places = h.places;
  sizes = h.sizes;
  laid = h.laid;
  covered = h.covered;
  cancelled = h.cancelled;
  sealed = h.sealed;
  running = h.running;
  freed = h.freed;
}

pub owners_kept : (g : Geometry) (roles : Roles) (j : Journal) (roll : Roll) → HaveOwners g roles j
    → ((b : ℕ) → is_claimed (roles Running b) ≡ false → j.owners b ≡ Live → is_held (with_roll j roll) b ≡ false) → HaveOwners g roles (with_roll j roll)
owners_kept g roles j roll h in_hand = record {
  claimed = h.claimed;
  gone = λ b unclaimed not_freed. let is : IsGone g roles j b = h.gone b unclaimed not_freed in record { unclaimed = is.unclaimed; uncancelled = is.uncancelled };
  in_hand = in_hand;
  freed_last = h.freed_last;
  freed_low = h.freed_low;
  freed_high = h.freed_high;
}

pub room_kept : (g : Geometry) (j : Journal) (roll : Roll) → HasRoom g j → HasRoom g (with_roll j roll)
room_kept g j roll h = record { oldest = h.oldest; sealed = h.sealed; number = h.number; fits = h.fits; unspent = h.unspent }

-- an image stays safe where the header and what is home stay
pub image_kept : (g : Geometry) (roles : Roles) (home : Image) (j : Journal) (roll : Roll) (image : Image) → trimmed_count roll ≡ trimmed_count j.roll → home_count roll ≡ home_count j.roll
    → IsSafeImage g roles home j image → IsSafeImage g roles home (with_roll j roll) image
image_kept g roles home j roll image trims homes h = record {
  geometry = h.geometry;
  header = subst (λ (n : ℕ). HasHeader g image j.oldest ⊎ HasHeader g image (header_after g j n)) (sym trims) h.header;
  ring = h.ring;
  whole = h.whole;
  rest = λ v logged. subst (λ (n : ℕ). GivesMetadata (roles v) home (txs_of g j v) image (txs_after g j n v)) (sym homes) (h.rest v logged);
}

pub batch_kept : (g : Geometry) (roles : Roles) (j : Journal) (roll : Roll) (batch : Batch) → IsBatch g roles j batch → IsBatch g roles (with_roll j roll) batch
batch_kept g roles j roll batch h = record { some = h.some; committed = h.committed; held = h.held; left = h.left; cancelled = h.cancelled }

pub metadata_is_claimed : (role : Role) → is_metadata role ≡ true → is_claimed role ≡ true
metadata_is_claimed (Metadata n) is = refl
metadata_is_claimed FileBytes is = absurd (true≢false (sym is))
metadata_is_claimed Unclaimed is = absurd (true≢false (sym is))
