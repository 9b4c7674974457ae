-- What a mount finds in an image that a crash of another one left: the same transactions, or none; and the same bytes.
use Rattle.std.proofs.Common.{◌≡◌, ◌<◌, ◌≤◌, ◌⊎◌, inl, inr, ℕ, true, List, [], length, slice_index, Option, Some, refl, sym, ap, ◌∙◌, subst, arith}
use Rattle.std.specs.Prelude.{IsSomeAnd}
use Rattle.lufs_base.specs.declared.geometry.Geometry.{Geometry}
use Rattle.volume_model.specs.declared.device_call.DeviceCall.{DeviceCall}
use Rattle.volume_model.specs.declared.log.Header.{Header}
use Rattle.volume_model.specs.Format.{Image, geometry_of}
use Rattle.volume_model.specs.Log.{trailer_of, Listed, WithHeader, log_of, recovered_by, recovered, replayed}
use Rattle.volume_model.specs.Crash.{Record, with_calls, Outcome, present_of}
use Rattle.volume_model.specs.Sound.{HasNoLaterIdent}
use Rattle.volume_model.proofs.ReplayLaws.{byte_replayed}
use Rattle.log_laws.specs.StaleSectors.{HasNoIdentAbove}
use Rattle.log_laws.specs.LogRing.{IsLogRing}
use Rattle.log_laws.specs.LogOnImage.{ring_sector}
use Rattle.log_laws.proofs.JournalSteps.{step_new}
use Rattle.log_laws.proofs.MountLists.{log_listed, ended_by_stale}
use Rattle.journal_model.specs.LaidBlocks.{replayed_byte}
use Rattle.journal_model.specs.SafeImages.{HasHeader}
use Rattle.journal_model.specs.Mount.{Found, Stage, Replaying, Replayed, Emptied, Mounted, is_home, next_epoch, kept_header, newest_header, MountStep, IsOutsideLog, IsFoundIn, IsMountImage, IsMounting, RecoversSame, IsFoundAgain}
use Rattle.journal_laws.proofs.Outcomes.{blocks_fit}
use Rattle.journal_laws.proofs.GeometryRead.{numbers_of}
use Rattle.journal_laws.proofs.LogRead.{log_read, same_listing}
use Rattle.journal_laws.proofs.MountImages.{numbers, next_may, mount_keeps}

-- what the log and the bytes of an image are to another mount
pub record Refound (g : Geometry) (found : Found) (first image : Image) : Type 0 where
  pub again : Found
  pub which : (again ≡ found) ⊎ (again ≡ record { header = next_epoch found.header; txs = [] })
  pub geometry : geometry_of image ≡ Some g
  pub header : HasHeader g image again.header
  pub log : log_of g image ≡ WithHeader again.header (Listed again.txs)
  pub idents : HasNoIdentAbove g again.header.epoch (ring_sector g image)
  pub replays : (address : ℕ) → IsOutsideLog g address → replayed_byte image again.txs address ≡ replayed_byte first found.txs address

-- the header is the old one, or the new one and all blocks are home
which_header : (g : Geometry) (h : Header) (image : Image) (stage : Stage) → HasHeader g image (kept_header h stage) ⊎ HasHeader g image (newest_header h stage)
    → HasHeader g image h ⊎ (HasHeader g image (next_epoch h) × (is_home stage ≡ true))
which_header g h image (Replaying left) (inl is) = inl is
which_header g h image (Replaying left) (inr is) = inl is
which_header g h image Replayed (inl is) = inl is
which_header g h image Replayed (inr is) = inl is
which_header g h image Emptied (inl is) = inl is
which_header g h image Emptied (inr is) = inr (is, refl)
which_header g h image Mounted (inl is) = inr (is, refl)
which_header g h image Mounted (inr is) = inr (is, refl)

-- an address outside the log is one of the image
pub inside_image : (g : Geometry) (image : Image) (address : ℕ) → geometry_of image ≡ Some g → IsOutsideLog g address → address < length image
inside_image g image address is (inl low) = omega (arith, blocks_fit g image is, (numbers_of g image is).log_low, low)
inside_image g image address is (inr high) = omega (arith, blocks_fit g image is, high.1)

module _ (g : Geometry) (found : Found) (first image : Image) (stage : Stage) (began : IsFoundIn g found first) (is : IsMountImage g found first stage image) where
  idents_kept : HasNoIdentAbove g found.header.epoch (ring_sector g image)
  idents_kept place below = subst (λ (s : List ℕ). (trailer_of s).ident ≤ found.header.epoch) (sym (is.ring place below)) (began.idents place below)

  with_old_header : HasHeader g image found.header → Refound g found first image
  with_old_header header =
      let h = found.header in
      record {
        again = found;
        which = inl refl;
        geometry = is.geometry;
        header = header;
        log = log_listed g h image found.txs header
            (same_listing g h (ring_sector g first) (ring_sector g image) is.ring ∙ (log_read g first h (Listed found.txs) began.log).1);
        idents = idents_kept;
        replays = is.replays;
      }

  -- no sector of the ring is of the next epoch
  pub empty_ring : IsLogRing g (next_epoch found.header) (ring_sector g image) [] []
  empty_ring =
      let may = next_may g found first began in
      step_new g (next_epoch found.header) (ring_sector g image) (numbers g found first began) may.epoch_high may.head_low (omega (arith, may.tid_high))
      (λ place below. omega (arith, idents_kept place below))

  pub empty_log : HasHeader g image (next_epoch found.header) → log_of g image ≡ WithHeader (next_epoch found.header) (Listed [])
  empty_log header =
      let h = next_epoch found.header in
      log_listed g h image [] header (ended_by_stale g h (ring_sector g image) [] empty_ring.begins (empty_ring.rest 0 (omega arith)))

  with_new_header : HasHeader g image (next_epoch found.header) → is_home stage ≡ true → Refound g found first image
  with_new_header header home = record {
    again = record { header = next_epoch found.header; txs = [] };
    which = inr refl;
    geometry = is.geometry;
    header = header;
    log = empty_log header;
    idents = empty_ring.idents;
    replays = is.home home;
  }

  pub refound : Refound g found first image
  refound = elim (which_header g found.header image stage is.header) [
    | inl old ↦ with_old_header old
    | inr new ↦ with_new_header new.0 new.1
  ]

module _ (g : Geometry) (found : Found) (first image : Image) (f : Refound g found first image) where
  pub what_is_recovered : recovered g image ≡ Some (replayed image f.again.txs)
  what_is_recovered = ap (recovered_by image) f.log

  pub recovered_bytes : (address : ℕ) → IsOutsideLog g address → slice_index (replayed image f.again.txs) address ≡ replayed_byte first found.txs address
  recovered_bytes address out = byte_replayed image f.again.txs address (inside_image g image address f.geometry out) ∙ f.replays address out

  which_log : (log_of g image ≡ WithHeader found.header (Listed found.txs)) ⊎ (log_of g image ≡ WithHeader (next_epoch found.header) (Listed []))
  which_log = elim f.which [
    | inl old ↦ inl (f.log ∙ ap (λ (k : Found). WithHeader k.header (Listed k.txs)) old)
    | inr new ↦ inr (f.log ∙ ap (λ (k : Found). WithHeader k.header (Listed k.txs)) new)
  ]

  pub no_later_ident : HasNoLaterIdent g image
  no_later_ident = record { header = f.again.header; reads = f.header; idents = f.idents }

  pub same_by : RecoversSame g found first image
  same_by = record {
    log = which_log;
    bytes = subst (λ (o : Option Image). IsSomeAnd o (λ content. (address : ℕ) → IsOutsideLog g address → slice_index content address ≡ replayed_byte first found.txs address))
        (sym what_is_recovered) recovered_bytes;
    idents = no_later_ident;
  }

  pub again_by : IsFoundAgain g found first image
  again_by = record {
    again = f.again;
    which = f.which;
    may = λ epoch. record { geometry = f.geometry; log = f.log; idents = f.idents; epoch = epoch };
    replays = f.replays;
  }

pub left_by_mount : (g : Geometry) (found : Found) (first : Image) (r : Record) (stage : Stage) (image : Image) → IsMounting g found first r stage → Outcome r (length r.calls) image
    → Refound g found first image
left_by_mount g found first r stage image m left = refound g found first image stage m.began (m.each image left)

-- what a mount recovers of an image that a crash of a mount left, of which another crash left this one
pub nested_bytes : (g : Geometry) (found : Found) (first image other : Image) (a : IsFoundAgain g found first image) (s : Record) (stage : Stage) → IsMounting g a.again image s stage
    → Outcome s (length s.calls) other → IsSomeAnd (recovered g other) (λ content. (address : ℕ) → IsOutsideLog g address → slice_index content address ≡ replayed_byte first found.txs address)
nested_bytes g found first image other a s stage m left =
    let f = left_by_mount g a.again image s stage other m left in
    subst (λ (o : Option Image). IsSomeAnd o (λ content. (address : ℕ) → IsOutsideLog g address → slice_index content address ≡ replayed_byte first found.txs address))
    (sym (what_is_recovered g a.again image other f)) (λ address out. recovered_bytes g a.again image other f address out ∙ a.replays address out)

-- a call of a mount that failed, and is listed or not
pub left_by_failure : (g : Geometry) (found : Found) (first : Image) (r after : Record) (stage next : Stage) (calls : List DeviceCall) (image : Image) → IsMounting g found first r stage
    → MountStep g found (present_of r) stage calls next → (after ≡ r) ⊎ (after ≡ with_calls r calls) → Outcome after (length after.calls) image → Refound g found first image
left_by_failure g found first r after stage next calls image m step (inl same) left =
    left_by_mount g found first r stage image m (subst (λ (q : Record). Outcome q (length q.calls) image) same left)
left_by_failure g found first r after stage next calls image m step (inr more) left =
    left_by_mount g found first (with_calls r calls) next image (mount_keeps g found first r stage next calls m step)
    (subst (λ (q : Record). Outcome q (length q.calls) image) more left)
