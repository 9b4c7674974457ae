-- A block of a batch is written home.
use Rattle.std.proofs.Common.{◌≡◌, ◌≢◌, ◌<◌, ◌≤◌, ◌⊎◌, inl, inr, ℕ, ◌+◌, ◌*◌, ◌/◌, ◌%◌, eqb, true, false, List, [], ◌∷◌, length, take, drop, slice_index, IfSome, refl, sym, ap, ◌∙◌, subst, arith}
use Rattle.std.proofs.Math.Nat.{mod-lt}
use Rattle.std.proofs.lemmas.Bool.{true≢false, cases_Bool, cases_eq, cases_lt, eq-eqb, ne_eqb, or_left, or_right, or_from}
use Rattle.std.proofs.lemmas.List.{length-take-le, length-drop}
use Rattle.std.proofs.lemmas.Option.{IfSome_then}
use Rattle.lufs_base.specs.Layout.{IsGeometry, ring_of, group_start, blocks_of}
use Rattle.lufs_base.specs.declared.geometry.Geometry.{Geometry}
use Rattle.volume_model.specs.declared.device_call.DeviceCall.TheVariants.{Write}
use Rattle.volume_model.specs.declared.log.Tx.{Tx}
use Rattle.volume_model.specs.Format.{Image, sector, block, overwritten}
use Rattle.volume_model.specs.Log.{header_of, replayed}
use Rattle.volume_model.specs.Crash.{Record, with_calls, IsInside, IsPartlyWritten, present_of}
use Rattle.volume_model.specs.Sound.{is_among}
use Rattle.volume_model.proofs.ReplayLaws.{length-replayed, byte_replayed}
use Rattle.log_laws.specs.LogOnImage.{ring_sector, HaveSameLog}
use Rattle.log_laws.proofs.ImageSteps.{written_beside}
use Rattle.log_laws.proofs.JournalSteps.{step_same}
use Rattle.journal_model.specs.Journals.{SealedTx, Batch, Roll, Writing, Journal}
use Rattle.journal_model.specs.Versions.{Version, written_txs, header_after, txs_after, txs_of}
use Rattle.journal_model.specs.LaidBlocks.{replayed_byte, is_cancelled_by}
use Rattle.journal_model.specs.BlockRoles.{Metadata, Roles, is_claimed}
use Rattle.journal_model.specs.Batches.{batch_of, held_by, trimmed_count}
use Rattle.journal_model.specs.SafeImages.{HasHeader, IsSafeImage}
use Rattle.journal_model.specs.Kept.{IsBatch, IsRoll}
use Rattle.journal_model.specs.Safety.{IsWrittenSoFar, IsRolledSoFar, IsPresent, IsSafe}
use Rattle.journal_laws.proofs.Replays.{same_replayed, twice_replayed, goes_home}
use Rattle.journal_laws.proofs.Outcomes.{byte_of_same_sector, byte_in_block, present_after, size_of_present, sectors_after, left_by_write, done_is_partly, kept_beside, old_or_written, byte_written, same_geometry}
use Rattle.journal_laws.proofs.RollFacts.{size_of_opening, oldest_loggable, metadata_place, all_lie, laid_place, parts_of}
use Rattle.journal_laws.proofs.RollKept.{with_roll, versions_kept, owners_kept, room_kept}

-- The sealed transaction stands where the ring stays.
pub sealed_stands : (g : Geometry) (before after : Image) (epoch : ℕ) (s : SealedTx) → IsGeometry g
    → ((place : ℕ) → place < ring_of g → ring_sector g after place ≡ ring_sector g before place) → IsWrittenSoFar g before epoch s → IsWrittenSoFar g after epoch s
sealed_stands g before after epoch s geometry same h = record {
  within = h.within;
  stands = record { each = λ i below. same ((s.tx.first + i) % ring_of g) (mod-lt (s.tx.first + i) (omega (arith, geometry.log_low))) ∙ h.stands.each i below };
}

module _ (g : Geometry) (roles : Roles) (r : Record) (j : Journal) (batch : Batch) (b : ℕ) (left : List ℕ) (geometry : IsGeometry g) (safe : IsSafe g roles r j)
    (writing : j.roll ≡ Writing batch) (here : batch.left ≡ b ∷ left) where
  abbrev home : Image
  home = present_of r

  abbrev before : List Tx
  before = take batch.count j.committed

  abbrev bytes : List ℕ
  bytes = block (replayed home before) b

  -- what stands there once the block is written
  abbrev next : Image
  next = overwritten home (8 * b) bytes

  abbrev rest : Batch
  rest = record batch { left = left }

  is_batch : IsBatch g roles j batch
  is_batch = subst (IsRoll g roles j) writing safe.roll

  held_here : is_among b batch.held ≡ true
  held_here = is_batch.left b (ap (is_among b) here ∙ or_left (eqb b b) (is_among b left) (eq-eqb b b refl))

  place : (group_start g 0 ≤ b) × (b < blocks_of g)
  place = laid_place g before b (oldest_loggable g roles r j safe batch.count) (sym (is_batch.held b) ∙ held_here)

  opening_fits : 512 * (8 * b) + 4096 ≤ length r.opening
  opening_fits = omega (arith, place.1, size_of_opening g roles r j safe)

  home_fits : 512 * (8 * b) + 4096 ≤ length home
  home_fits = omega (arith, opening_fits, size_of_present r safe.sectors)

  size : length bytes ≡ 4096
  size = length-take-le 4096 (drop (512 * (8 * b)) (replayed home before)) (omega (arith, home_fits, length-replayed home before, length-drop (512 * (8 * b)) (replayed home before)))

  pub write_inside : IsInside (length r.opening) (Write (8 * b) bytes)
  write_inside = (omega (arith, size), omega (arith, size, opening_fits))

  -- its bytes are those that the batch leaves
  at_next : (i : ℕ) → i < 4096 → slice_index next (4096 * b + i) ≡ replayed_byte home before (4096 * b + i)
  at_next i inside =
      let at : 512 * (8 * b) + i ≡ 4096 * b + i = omega arith in
      ap (λ (n : ℕ). slice_index next n) (sym at) ∙ byte_written home (8 * b) bytes i (omega (arith, size, home_fits)) (omega (arith, size, inside))
      ∙ byte_in_block (replayed home before) b i inside ∙ byte_replayed home before (4096 * b + i) (omega (arith, inside, home_fits))

  next_partly : IsPartlyWritten (8 * b) bytes home next
  next_partly = done_is_partly home (8 * b) bytes (omega (arith, size, home_fits))

  -- what a crash left of the write
  module _ (old new : Image) (long : length old ≡ length r.opening) (partly : IsPartlyWritten (8 * b) bytes old new) where
    old_fits : 512 * (8 * b) + length bytes ≤ length old
    old_fits = omega (arith, size, long, opening_fits)

    byte_beside : (c i : ℕ) → c ≢ b → i < 4096 → slice_index new (4096 * c + i) ≡ slice_index old (4096 * c + i)
    byte_beside c i away inside =
        byte_of_same_sector new old (4096 * c + i) ((4096 * c + i) / 512) refl
        (kept_beside (8 * b) bytes old new ((4096 * c + i) / 512) (omega (arith, size)) old_fits partly
        (elim (cases_lt c b) [ inl below ↦ inl (omega (arith, below, inside)) | inr from ↦ inr (omega (arith, from, away, inside, size)) ]))

    byte_old_or_next : (address : ℕ) → (slice_index new address ≡ slice_index old address) ⊎ (slice_index new address ≡ slice_index next address)
    byte_old_or_next address =
        elim (old_or_written (8 * b) bytes old new home (address / 512) (omega (arith, size)) old_fits (omega (arith, size, home_fits)) partly) [
          | inl same ↦ inl (byte_of_same_sector new old address (address / 512) refl same)
          | inr put ↦ inr (byte_of_same_sector new next address (address / 512) refl put)
        ]

    pub log_kept : HaveSameLog g old new
    log_kept = written_beside g (8 * b) bytes old new (omega (arith, size)) old_fits (inr (omega (arith, place.0, geometry.log_low, geometry.log_step))) partly

    super_kept : sector new 16 ≡ sector old 16
    super_kept = kept_beside (8 * b) bytes old new 16 (omega (arith, size)) old_fits partly (inl (omega (arith, place.0)))

  home_long : length home ≡ length r.opening
  home_long = size_of_present r safe.sectors

  -- each version keeps its metadata
  pub version_bytes : (v : Version) (c n i : ℕ) → roles v c ≡ Metadata n → i < n
      → replayed_byte next (txs_of g j v) (4096 * c + i) ≡ replayed_byte home (txs_of g j v) (4096 * c + i)
  version_bytes v c n i role below =
      let at = metadata_place g roles r j safe v c n i role below in
      let a : ℕ = 4096 * c + i in
      let block_of : a / 4096 ≡ c = omega (arith, at.2) in
      let later : List Tx = txs_after g j batch.count v in
      elim (cases_eq c b) [
        | inl same ↦ elim (cases_Bool (is_cancelled_by later c)) [
          | inl cancelled ↦ absurd (true≢false (sym (ap is_claimed role) ∙ is_batch.cancelled v c (ap (λ (d : ℕ). is_among d batch.held) same ∙ held_here) cancelled))
          | inr kept ↦
              let put : slice_index next a ≡ replayed_byte home before a = ap (λ (d : ℕ). slice_index next (4096 * d + i)) same ∙ at_next i at.2 ∙ ap (λ (d : ℕ). replayed_byte home before (4096 * d + i)) (sym same) in
              subst (λ (l : List Tx). replayed_byte next l a ≡ replayed_byte home l a) (parts_of g j batch.count v)
              (goes_home next home before later a (all_lie g before (oldest_loggable g roles r j safe batch.count)) (ap (is_cancelled_by later) block_of ∙ kept) put)
        ]
        | inr away ↦ same_replayed next home (txs_of g j v) a (byte_beside home next home_long next_partly c i away at.2)
      ]

  module _ (old new : Image) (long : length old ≡ length r.opening) (partly : IsPartlyWritten (8 * b) bytes old new) (h : IsSafeImage g roles home j old) where
    image_written : IsSafeImage g roles next (with_roll j (Writing rest)) new
    image_written =
        let same = log_kept old new long partly in
        let oldest : HasHeader g old j.oldest ⊎ HasHeader g old (header_after g j 0) =
        subst (λ (roll : Roll). HasHeader g old j.oldest ⊎ HasHeader g old (header_after g j (trimmed_count roll))) writing h.header in
        let whole : (v : Version) (logged : _) (c n i : ℕ) → roles v c ≡ Metadata n → i < n → replayed_byte new (txs_of g j v) (4096 * c + i) ≡ replayed_byte next (txs_of g j v) (4096 * c + i) =
        λ v logged c n i role below. elim (byte_old_or_next old new long partly (4096 * c + i)) [
          | inl kept ↦ same_replayed new old (txs_of g j v) (4096 * c + i) kept ∙ (h.whole v logged).each c n i role below ∙ sym (version_bytes v c n i role below)
          | inr put ↦ same_replayed new next (txs_of g j v) (4096 * c + i) put
        ] in
        record {
          geometry = same_geometry g old new partly.size (super_kept old new long partly) h.geometry;
          header = elim oldest [
            | inl first ↦ inl (ap (header_of g) same.header ∙ first)
            | inr first ↦ inr (ap (header_of g) same.header ∙ first)
          ];
          ring = step_same g j.oldest (ring_sector g old) (ring_sector g new) j.committed (written_txs j) same.ring h.ring;
          whole = λ v logged. record { each = whole v logged };
          rest = λ v logged. record { each = whole v logged };
        }

  rolled_so_far : IsRolledSoFar next (with_roll j (Writing rest)) rest
  rolled_so_far c i held not_left inside =
      let a : ℕ = 4096 * c + i in
      elim (cases_eq c b) [
        | inl same ↦
            let put : slice_index next a ≡ replayed_byte home before a = ap (λ (d : ℕ). slice_index next (4096 * d + i)) same ∙ at_next i inside ∙ ap (λ (d : ℕ). replayed_byte home before (4096 * d + i)) (sym same) in
            put ∙ sym (twice_replayed next home before a put)
        | inr away ↦
            let old : IsRolledSoFar home j batch = subst (λ (roll : Roll). IfSome (batch_of roll) (IsRolledSoFar home j)) writing safe.present.rolled in
            let kept = byte_beside home next home_long next_partly c i away inside in
            let done : is_among c batch.left ≡ false = ap (is_among c) here ∙ or_from (eqb b c) (is_among c left) (ne_eqb b c (λ same. away (sym same))) not_left in
            kept ∙ old c i held done inside ∙ sym (same_replayed next home before a kept)
      ]

  pub keeps_roll_write : IsSafe g roles (with_calls r (Write (8 * b) bytes ∷ [])) (record j { roll = Writing (record batch { left = left }) })
  keeps_roll_write =
      let same = log_kept home next home_long next_partly in
      let sectors = sectors_after r (Write (8 * b) bytes) safe.sectors write_inside in
      let now : present_of (with_calls r (Write (8 * b) bytes ∷ [])) ≡ next = present_after r (Write (8 * b) bytes ∷ []) in
      let newest : HasHeader g home (header_after g j 0) = subst (λ (roll : Roll). HasHeader g home (header_after g j (trimmed_count roll))) writing safe.present.header in
      record {
        sectors = sectors;
        each = λ image outcome.
            let e = left_by_write r (8 * b) bytes image sectors outcome in
            subst (λ (i : Image). IsSafeImage g roles i (with_roll j (Writing rest)) image) (sym now) (image_written e.0 image e.1.size e.2 (safe.each e.0 e.1));
        present = subst (λ (i : Image). IsPresent g i (with_roll j (Writing rest))) (sym now) record {
          header = ap (header_of g) same.header ∙ newest;
          sealed = IfSome_then j.sealed safe.present.sealed (λ s. sealed_stands g home next j.oldest.epoch s geometry same.ring);
          rolled = rolled_so_far;
        };
        versions = versions_kept g roles j (Writing rest) safe.versions;
        roll = record { some = is_batch.some; committed = is_batch.committed; held = is_batch.held; left = λ c among. is_batch.left c (ap (is_among c) here ∙ or_right (eqb b c) (is_among c left) among); cancelled = is_batch.cancelled };
        owners = owners_kept g roles j (Writing rest) safe.owners (λ c unclaimed live. subst (λ (roll : Roll). is_among c (held_by (batch_of roll)) ≡ false) writing (safe.owners.in_hand c unclaimed live));
        room = room_kept g j (Writing rest) safe.room;
      }
