-- A mount's steps: what each image that a crash leaves has of it, and what is present.
use Rattle.std.proofs.Common.{◌≡◌, ◌≢◌, ◌<◌, ◌≤◌, ◌⊎◌, inl, inr, ℕ, ◌+◌, ◌*◌, ◌/◌, ◌%◌, eqb, Bool, true, false, List, [], ◌∷◌, length, take, drop, slice_index, Some, refl, sym, ap, ◌∙◌, subst, arith}
use Rattle.std.proofs.lemmas.Bool.{cases_Bool, cases_eq, false≢true, or_left, or_right, or_from, eq-eqb, ne_eqb}
use Rattle.std.proofs.lemmas.List.{length-take-le, length-drop, take_all}
use Rattle.lufs_base.specs.Layout.{IsGeometry, header_sector, ring_place, group_start, blocks_of}
use Rattle.lufs_base.specs.declared.geometry.Geometry.{Geometry}
use Rattle.volume_model.specs.declared.device_call.DeviceCall.{DeviceCall}
use Rattle.volume_model.specs.declared.device_call.DeviceCall.TheVariants.{Write, Flush}
use Rattle.volume_model.specs.Format.{Image, sector, block, overwritten, geometry_of}
use Rattle.volume_model.specs.Log.{header_of, header_bytes, MayBeHeader, Listed, trailer_of, replayed}
use Rattle.volume_model.specs.Crash.{Record, with_calls, IsOfSectors, Outcome, IsPartlyWritten, IsSettled, image_after, present_of, pending}
use Rattle.volume_model.specs.Sound.{is_among}
use Rattle.volume_model.proofs.Calls.{pending_renewed}
use Rattle.volume_model.proofs.CrashLaws.{one_outcome}
use Rattle.volume_model.proofs.ReplayLaws.{length-replayed, byte_replayed}
use Rattle.log_laws.specs.StaleSectors.{HasNoIdentAbove}
use Rattle.log_laws.specs.LogOnImage.{ring_sector}
use Rattle.log_laws.proofs.ImageSteps.{ring_beside, header_cut, epoch_done}
use Rattle.journal_model.specs.LaidBlocks.{replayed_byte, is_laid_by}
use Rattle.journal_model.specs.SafeImages.{HasHeader}
use Rattle.journal_model.specs.Mount.{Found, Stage, Replaying, Replayed, Emptied, Mounted, next_epoch, MountStep, HomeWrite, HomeFlush, NewHeader, HeaderFlush, IsOutsideLog, IsFoundIn, IsMountImage, IsMounting}
use Rattle.journal_laws.proofs.Outcomes.{byte_of_same_sector, byte_in_block, present_after, present_left, size_of_present, sectors_after, left_by_write, left_by_flush, done_is_partly, same_geometry, blocks_fit}
use Rattle.journal_laws.proofs.Replays.{LieInBlocks, same_replayed, stands_replayed, twice_replayed}
use Rattle.journal_laws.proofs.RollFacts.{AllLoggable, all_lie, laid_place}
use Rattle.journal_laws.proofs.GeometryRead.{numbers_of}
use Rattle.journal_laws.proofs.LogRead.{log_read, listed_are_loggable}
use Rattle.journal_laws.proofs.BlockWrites.{put_byte, block_beside, byte_beside, byte_cut, header_size, header_beside}

abbrev is_mounted : Stage → Bool
is_mounted (Replaying left) = false
is_mounted Replayed = false
is_mounted Emptied = false
is_mounted Mounted = true

not_yet : (stage : Stage) → is_mounted stage ≡ false → stage ≡ Mounted → ⊥
not_yet stage is same = false≢true (sym is ∙ ap is_mounted same)

-- block b is one of the groups
abbrev pub IsInGroups : Geometry → ℕ → Type 0
IsInGroups g b = (group_start g 0 ≤ b) × (b < blocks_of g)

-- an address of it
pub outside_log : (g : Geometry) (b i : ℕ) → IsInGroups g b → i < 4096 → IsOutsideLog g (4096 * b + i)
outside_log g b i inside below = inr (omega (arith, inside.0), omega (arith, inside.1, below))

-- no such address lies in the header's sector
outside_header : (g : Geometry) (address : ℕ) → IsGeometry g → IsOutsideLog g address → address / 512 ≢ header_sector g
outside_header g address ok (inl low) = omega (arith, low)
outside_header g address ok (inr high) = omega (arith, high.0, ok.log_low)

module _ (g : Geometry) (found : Found) (first : Image) (began : IsFoundIn g found first) where
  pub numbers : IsGeometry g
  numbers = numbers_of g first began.geometry

  logged : AllLoggable g found.txs
  logged = listed_are_loggable g first found.header found.txs began.log

  pub they_lie : LieInBlocks found.txs
  they_lie = all_lie g found.txs logged

  pub in_groups : (b : ℕ) → is_laid_by found.txs b ≡ true → IsInGroups g b
  in_groups b laid = laid_place g found.txs b logged laid

  pub has_header : HasHeader g first found.header
  has_header = (log_read g first found.header (Listed found.txs) began.log).0

  pub next_may : MayBeHeader g (next_epoch found.header)
  next_may = record {
    epoch_low = omega arith;
    epoch_high = began.epoch;
    head_low = omega (arith, numbers.log_low);
    head_high = omega arith;
    tid_low = omega arith;
    tid_high = omega arith;
  }

  -- a mount begins
  pub mount_begins : (r : Record) (left : List ℕ) → first ≡ present_of r → IsOfSectors r → IsSettled r → ((b : ℕ) → is_among b left ≡ is_laid_by found.txs b)
      → IsMounting g found first r (Replaying left)
  mount_begins r left is ok settled all =
      let n = length r.calls in
      let whole : take n r.calls ≡ r.calls = take_all n r.calls (omega arith) in
      let one : (image : Image) → Outcome r n image → image ≡ first =
      λ image outcome. (one_outcome r n image ok (ap pending whole ∙ settled)).0 outcome ∙ ap (image_after r.opening) whole ∙ sym is in
      record {
        sectors = ok;
        began = began;
        each = λ image outcome. subst (λ (i : Image). IsMountImage g found first (Replaying left) i) (sym (one image outcome)) record {
          geometry = began.geometry;
          header = inl has_header;
          ring = λ place below. refl;
          replays = λ address out. refl;
          home = λ home. absurd (false≢true home);
        };
        newest = subst (λ (i : Image). HasHeader g i found.header) is has_header;
        left = λ b among. sym (all b) ∙ among;
        written = λ b i laid none below. absurd (false≢true (sym none ∙ all b ∙ laid));
        settled = λ same. absurd (not_yet (Replaying left) refl same);
      }

  -- of what a crash leaves before the new header
  same_header : (image : Image) → HasHeader g image found.header ⊎ HasHeader g image found.header → HasHeader g image found.header
  same_header image (inl is) = is
  same_header image (inr is) = is

  module _ (r : Record) (b : ℕ) (rest : List ℕ) (m : IsMounting g found first r (Replaying (b ∷ rest))) where
    abbrev new_block : List ℕ
    new_block = block (replayed (present_of r) found.txs) b

    now : IsMountImage g found first (Replaying (b ∷ rest)) (present_of r)
    now = m.each (present_of r) (present_left r m.sectors)

    place : IsInGroups g b
    place = in_groups b (m.left b (or_left (eqb b b) (is_among b rest) (eq-eqb b b refl)))

    room : (image : Image) → geometry_of image ≡ Some g → 4096 * b + 4096 ≤ length image
    room image is = omega (arith, blocks_fit g image is, place.1)

    block_size : length new_block ≡ 4096
    block_size =
        let content = replayed (present_of r) found.txs in
        length-take-le 4096 (drop (512 * (8 * b)) content)
        (omega (arith, length-drop (512 * (8 * b)) content, length-replayed (present_of r) found.txs, room (present_of r) now.geometry))

    -- its bytes are as they are to be recovered
    block_byte : (address : ℕ) → address / 4096 ≡ b → slice_index new_block (address % 4096) ≡ replayed_byte (present_of r) found.txs address
    block_byte address here =
        let at : 4096 * b + address % 4096 ≡ address = omega (arith, here) in
        let content = replayed (present_of r) found.txs in
        byte_in_block content b (address % 4096) (omega arith) ∙ ap (slice_index content) at
        ∙ byte_replayed (present_of r) found.txs address (omega (arith, at, room (present_of r) now.geometry))

    abbrev home_call : DeviceCall
    home_call = Write (8 * b) new_block

    home_sectors : IsOfSectors (with_calls r (home_call ∷ []))
    home_sectors =
        sectors_after r home_call m.sectors
        (omega (arith, block_size), omega (arith, block_size, room (present_of r) now.geometry, size_of_present r m.sectors))

    home_image : (old image : Image) → IsMountImage g found first (Replaying (b ∷ rest)) old → IsPartlyWritten (8 * b) new_block old image
        → IsMountImage g found first (Replaying rest) image
    home_image old image was partly =
        let fits = room old was.geometry in
        let kept : (k : ℕ) → k < 8 * b → sector image k ≡ sector old k = λ k before. block_beside old b new_block block_size fits image k partly (inl before) in
        record {
          geometry = same_geometry g old image partly.size (kept 16 (omega (arith, place.0))) was.geometry;
          header = inl (ap (λ (s : List ℕ). header_of g s) (kept (header_sector g) (omega (arith, place.0, numbers.log_low))) ∙ same_header old was.header);
          ring = λ k below. kept (ring_place g k) (omega (arith, below, place.0, numbers.log_low, numbers.log_step)) ∙ was.ring k below;
          replays = λ address out. elim (byte_cut old b new_block block_size fits image address partly) [
            | inl same ↦ same_replayed image old found.txs address same ∙ was.replays address out
            | inr put ↦ twice_replayed image (present_of r) found.txs address (put.1 ∙ block_byte address put.0) ∙ now.replays address out
          ];
          home = λ home. absurd (false≢true home);
        }

    home_each : (image : Image) → Outcome (with_calls r (home_call ∷ [])) (length (with_calls r (home_call ∷ [])).calls) image → IsMountImage g found first (Replaying rest) image
    home_each image left =
        let before = left_by_write r (8 * b) new_block image home_sectors left in
        home_image before.0 image (m.each before.0 before.1) before.2

    home_present : present_of (with_calls r (home_call ∷ [])) ≡ overwritten (present_of r) (8 * b) new_block
    home_present = present_after r (home_call ∷ [])

    home_written : (c i : ℕ) → is_laid_by found.txs c ≡ true → is_among c rest ≡ false → i < 4096
        → slice_index (overwritten (present_of r) (8 * b) new_block) (4096 * c + i) ≡ replayed_byte first found.txs (4096 * c + i)
    home_written c i laid none below =
        let fits = room (present_of r) now.geometry in
        let out : IsOutsideLog g (4096 * c + i) = outside_log g c i (in_groups c laid) below in
        let at : (4096 * c + i) / 4096 ≡ c = omega (arith, below) in
        let inside : (4096 * c + i) % 4096 ≡ i = omega (arith, below) in
        elim (cases_eq c b) [
          | inl same ↦
              ap (λ (k : ℕ). slice_index (overwritten (present_of r) (8 * b) new_block) (4096 * k + i)) same ∙ put_byte (present_of r) b new_block block_size fits i below
              ∙ ap (slice_index new_block) (sym inside) ∙ block_byte (4096 * c + i) (at ∙ same) ∙ now.replays (4096 * c + i) out
          | inr away ↦
              byte_beside (present_of r) b new_block block_size fits (4096 * c + i) (λ here. away (sym at ∙ here))
              ∙ m.written c i laid (or_from (eqb b c) (is_among c rest) (ne_eqb b c (λ same. away (sym same))) none) below
        ]

    home_written_on : IsMounting g found first (with_calls r (home_call ∷ [])) (Replaying rest)
    home_written_on = record {
      sectors = home_sectors;
      began = began;
      each = home_each;
      newest = same_header (present_of (with_calls r (home_call ∷ [])))
          (home_each (present_of (with_calls r (home_call ∷ []))) (present_left (with_calls r (home_call ∷ [])) home_sectors)).header;
      left = λ c among. m.left c (or_right (eqb b c) (is_among c rest) among);
      written = λ c i laid none below.
          ap (λ (image : Image). slice_index image (4096 * c + i)) home_present ∙ home_written c i laid none below;
      settled = λ same. absurd (not_yet (Replaying rest) refl same);
    }

  -- all blocks are home, and kept there
  module _ (r : Record) (m : IsMounting g found first r (Replaying [])) where
    whole : IsMountImage g found first (Replaying []) (present_of r)
    whole = m.each (present_of r) (present_left r m.sectors)

    brought_home : (address : ℕ) → IsOutsideLog g address → slice_index (present_of r) address ≡ replayed_byte first found.txs address
    brought_home address out =
        let b = address / 4096 in
        let at : 4096 * b + address % 4096 ≡ address = omega arith in
        elim (cases_Bool (is_laid_by found.txs b)) [
          | inl laid ↦ subst (λ (k : ℕ). slice_index (present_of r) k ≡ replayed_byte first found.txs k) at (m.written b (address % 4096) laid refl (omega arith))
          | inr none ↦ sym (stands_replayed (present_of r) found.txs address they_lie none) ∙ whole.replays address out
        ]

    flushed_sectors : IsOfSectors (with_calls r (Flush ∷ []))
    flushed_sectors = sectors_after r Flush m.sectors tt

    replayed_on : IsMounting g found first (with_calls r (Flush ∷ [])) Replayed
    replayed_on = record {
      sectors = flushed_sectors;
      began = began;
      each = λ image left. subst (λ (i : Image). IsMountImage g found first Replayed i) (sym (left_by_flush r image flushed_sectors left)) record {
        geometry = whole.geometry;
        header = whole.header;
        ring = whole.ring;
        replays = whole.replays;
        home = λ home. brought_home;
      };
      newest = subst (λ (i : Image). HasHeader g i found.header) (sym (present_after r (Flush ∷ []))) m.newest;
      left = λ c among. absurd (false≢true among);
      written = λ c i laid none below. ap (λ (image : Image). slice_index image (4096 * c + i)) (present_after r (Flush ∷ [])) ∙ m.written c i laid none below;
      settled = λ same. absurd (not_yet Replayed refl same);
    }

  -- the new header is written
  module _ (r : Record) (m : IsMounting g found first r Replayed) where
    at_home : IsMountImage g found first Replayed (present_of r)
    at_home = m.each (present_of r) (present_left r m.sectors)

    abbrev header_call : DeviceCall
    header_call = Write (header_sector g) (header_bytes (next_epoch found.header))

    header_room : (image : Image) → geometry_of image ≡ Some g → 512 * (header_sector g + 1) ≤ length image
    header_room image is = omega (arith, blocks_fit g image is, numbers.log_low)

    header_sectors : IsOfSectors (with_calls r (header_call ∷ []))
    header_sectors =
        let size = header_size (next_epoch found.header) in
        sectors_after r header_call m.sectors (omega (arith, size), omega (arith, size, header_room (present_of r) at_home.geometry, size_of_present r m.sectors))

    header_image : (old image : Image) → IsMountImage g found first Replayed old → IsPartlyWritten (header_sector g) (header_bytes (next_epoch found.header)) old image
        → IsMountImage g found first Emptied image
    header_image old image was partly =
        let big = header_room old was.geometry in
        let same_byte : (address : ℕ) → IsOutsideLog g address → slice_index image address ≡ slice_index old address = λ address out.
        byte_of_same_sector image old address (address / 512) refl
        (header_beside g (next_epoch found.header) old image (address / 512) big partly (outside_header g address numbers out)) in
        record {
          geometry = same_geometry g old image partly.size (header_beside g (next_epoch found.header) old image 16 big partly (omega arith)) was.geometry;
          header = elim (header_cut g (next_epoch found.header) old image big next_may partly) [
            | inl same ↦ inl (ap (λ (s : List ℕ). header_of g s) same ∙ same_header old was.header)
            | inr new ↦ inr new
          ];
          ring = λ place below. ring_beside g (next_epoch found.header) old image place big partly ∙ was.ring place below;
          replays = λ address out. same_replayed image old found.txs address (same_byte address out) ∙ was.replays address out;
          home = λ home address out. same_byte address out ∙ was.home refl address out;
        }

    no_later : HasNoIdentAbove g found.header.epoch (ring_sector g (present_of r))
    no_later place below = subst (λ (s : List ℕ). (trailer_of s).ident ≤ found.header.epoch) (sym (at_home.ring place below)) (began.idents place below)

    emptied_on : IsMounting g found first (with_calls r (header_call ∷ [])) Emptied
    emptied_on =
        let big = header_room (present_of r) at_home.geometry in
        let new_image : Image = overwritten (present_of r) (header_sector g) (header_bytes (next_epoch found.header)) in
        record {
          sectors = header_sectors;
          began = began;
          each = λ image left.
              let before = left_by_write r (header_sector g) (header_bytes (next_epoch found.header)) image header_sectors left in
              header_image before.0 image (m.each before.0 before.1) before.2;
          newest = subst (λ (i : Image). HasHeader g i (next_epoch found.header)) (sym (present_after r (header_call ∷ [])))
              (epoch_done g (next_epoch found.header) found.header.epoch (present_of r) numbers big next_may no_later (omega arith)).header;
          left = λ c among. absurd (false≢true among);
          written = λ c i laid none below.
              let address = 4096 * c + i in
              ap (λ (image : Image). slice_index image address) (present_after r (header_call ∷ []))
              ∙ byte_of_same_sector new_image (present_of r) address (address / 512) refl
              (header_beside g (next_epoch found.header) (present_of r) new_image (address / 512) big
              (done_is_partly (present_of r) (header_sector g) (header_bytes (next_epoch found.header)) (omega (arith, header_size (next_epoch found.header), big)))
              (outside_header g address numbers (outside_log g c i (in_groups c laid) below)))
              ∙ m.written c i laid none below;
          settled = λ same. absurd (not_yet Emptied refl same);
        }

  -- and kept
  module _ (r : Record) (m : IsMounting g found first r Emptied) where
    emptied : IsMountImage g found first Emptied (present_of r)
    emptied = m.each (present_of r) (present_left r m.sectors)

    kept_sectors : IsOfSectors (with_calls r (Flush ∷ []))
    kept_sectors = sectors_after r Flush m.sectors tt

    mounted_on : IsMounting g found first (with_calls r (Flush ∷ [])) Mounted
    mounted_on = record {
      sectors = kept_sectors;
      began = began;
      each = λ image left. subst (λ (i : Image). IsMountImage g found first Mounted i) (sym (left_by_flush r image kept_sectors left)) record {
        geometry = emptied.geometry;
        header = inl m.newest;
        ring = emptied.ring;
        replays = emptied.replays;
        home = λ home. emptied.home refl;
      };
      newest = subst (λ (i : Image). HasHeader g i (next_epoch found.header)) (sym (present_after r (Flush ∷ []))) m.newest;
      left = λ c among. absurd (false≢true among);
      written = λ c i laid none below. ap (λ (image : Image). slice_index image (4096 * c + i)) (present_after r (Flush ∷ [])) ∙ m.written c i laid none below;
      settled = λ same. pending_renewed r.calls (Flush ∷ []) refl;
    }

-- A step of a mount keeps what it has of the disk.
pub mount_keeps : (g : Geometry) (found : Found) (first : Image) (r : Record) (stage next : Stage) (calls : List DeviceCall) → IsMounting g found first r stage
    → MountStep g found (present_of r) stage calls next → IsMounting g found first (with_calls r calls) next
mount_keeps g found first r stage next calls m (HomeWrite b rest is) = home_written_on g found first m.began r b rest (subst (λ (s : Stage). IsMounting g found first r s) is m)
mount_keeps g found first r stage next calls m (HomeFlush is) = replayed_on g found first m.began r (subst (λ (s : Stage). IsMounting g found first r s) is m)
mount_keeps g found first r stage next calls m (NewHeader is) = emptied_on g found first m.began r (subst (λ (s : Stage). IsMounting g found first r s) is m)
mount_keeps g found first r stage next calls m (HeaderFlush is) = mounted_on g found first m.began r (subst (λ (s : Stage). IsMounting g found first r s) is m)
