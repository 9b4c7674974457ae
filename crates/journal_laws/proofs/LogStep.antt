-- Sectors of the sealed transaction are written to the ring.
use Rattle.std.proofs.Common.{◌≡◌, ◌≤◌, inl, inr, ℕ, ◌+◌, ◌*◌, ◌%◌, ◌^◌, eqb, true, List, [], ◌∷◌, length, take, drop, Option, Some, sym, ap, ◌∙◌, subst, arith, length-take, length-drop}
use Rattle.std.proofs.lemmas.Bool.{cases_Bool, cases_lt, cond-true, cond-false, eqb-true, false≢true, eq-eqb}
use Rattle.lufs_base.specs.Layout.{IsGeometry, ring_of, header_sector, ring_place, group_start}
use Rattle.lufs_base.specs.declared.geometry.Geometry.{Geometry}
use Rattle.volume_model.specs.declared.device_call.DeviceCall.TheVariants.{Write}
use Rattle.volume_model.specs.declared.log.Header.{Header}
use Rattle.volume_model.specs.declared.log.Tx.{Tx}
use Rattle.volume_model.specs.Format.{Image, sector, sectors_from, overwritten}
use Rattle.volume_model.specs.Log.{header_of, tx_bytes}
use Rattle.volume_model.specs.Crash.{Record, with_calls, IsPartlyWritten, present_of}
use Rattle.volume_model.specs.Sound.{is_among}
use Rattle.log_laws.specs.TxsInRing.{sectors_of_txs, StandsAt}
use Rattle.log_laws.specs.LogRing.{AreNext, IsLogRing}
use Rattle.log_laws.specs.LogOnImage.{ring_sector, tx_write, IsInOneTurn}
use Rattle.log_laws.proofs.TxRead.{tx_size}
use Rattle.log_laws.proofs.JournalSteps.{step_seal, step_same}
use Rattle.log_laws.proofs.PieceWrites.{piece_header, piece_ring, piece_stands}
use Rattle.journal_model.specs.Journals.{SealedTx, Batch, Roll, Idle, Writing, Home, Trimmed, Journal}
use Rattle.journal_model.specs.Versions.{Version, tx_written, txs_after, txs_of}
use Rattle.journal_model.specs.BlockRoles.{Roles, Stays, moved}
use Rattle.journal_model.specs.Batches.{batch_of, held_by, home_count}
use Rattle.journal_model.specs.SafeImages.{GivesMetadata, IsSafeImage}
use Rattle.journal_model.specs.Kept.{IsBatch, IsRoll}
use Rattle.journal_model.specs.Safety.{IsPresent, IsSafe}
use Rattle.journal_laws.proofs.Outcomes.{present_after, sectors_after, left_by_write, kept_beside, same_geometry, size_of_present}
use Rattle.journal_laws.proofs.RollFacts.{ring_at_home, size_of_opening, oldest_loggable, metadata_place, laid_place}
use Rattle.journal_laws.proofs.OpenSteps.{roll_kept}
use Rattle.journal_laws.proofs.WriteBeside.{IsBeside, LiesBeside, next_partly, gives_beside, same_beside, rolled_beside}

batch_place : (g : Geometry) (roles : Roles) (r : Record) (j : Journal) (batch : Batch) (b : ℕ) → IsSafe g roles r j → IsBatch g roles j batch → is_among b batch.held ≡ true → group_start g 0 ≤ b
batch_place g roles r j batch b safe is held = (laid_place g (take batch.count j.committed) b (oldest_loggable g roles r j safe batch.count) (sym (is.held b) ∙ held)).0

-- what a batch holds lies in the groups
pub held_place : (g : Geometry) (roles : Roles) (r : Record) (j : Journal) (b : ℕ) → IsSafe g roles r j → (roll : Roll) → IsRoll g roles j roll → is_among b (held_by (batch_of roll)) ≡ true → group_start g 0 ≤ b
held_place g roles r j b safe Idle is held = absurd (false≢true held)
held_place g roles r j b safe (Writing batch) is held = batch_place g roles r j batch b safe is held
held_place g roles r j b safe (Home batch) is held = batch_place g roles r j batch b safe is.0 held
held_place g roles r j b safe (Trimmed batch) is held = batch_place g roles r j batch b safe is.0 held

-- the ring in which the sealed transaction is to be written
pub ring_opened : (g : Geometry) (h : Header) (at_place : ℕ → List ℕ) (txs : List Tx) (s : SealedTx) → AreNext g h txs (s.tx ∷ []) → IsLogRing g h at_place txs (tx_written (Some s))
    → IsLogRing g h at_place txs (s.tx ∷ [])
ring_opened g h at_place txs s next ring = elim (cases_Bool (eqb s.written 0)) [
  | inl none ↦
      let stands : StandsAt g h.head (sectors_of_txs txs) (h.tid + length txs) s.tx = next.stand.0 in
      let at : sectors_of_txs txs ≡ sectors_of_txs txs + sectors_of_txs [] = omega arith in
      let number : h.tid + length txs ≡ h.tid + length txs + 0 = omega arith in
      let room : sectors_of_txs txs + sectors_of_txs (s.tx ∷ []) ≤ ring_of g = next.room in
      let numbers : h.tid + length txs + 1 ≤ 2 ^ 32 = next.numbers in
      step_seal g h at_place txs [] s.tx (subst (λ (l : List Tx). IsLogRing g h at_place txs l) (cond-true (eqb s.written 0) [] (s.tx ∷ []) none) ring)
      (subst (λ (m : ℕ). StandsAt g h.head m (h.tid + length txs + 0) s.tx) at (subst (λ (m : ℕ). StandsAt g h.head (sectors_of_txs txs) m s.tx) number stands))
      (omega (arith, stands.number, numbers)) (omega (arith, room))
  | inr some ↦ subst (λ (l : List Tx). IsLogRing g h at_place txs l) (cond-false (eqb s.written 0) [] (s.tx ∷ []) some) ring
]

-- the journal with so many sectors of what is sealed
abbrev pub with_written : Journal → SealedTx → ℕ → Journal
with_written j s n = record j { sealed = Some (record s { written = s.written + n }) }

-- of a journal in which this transaction is sealed
module _ (g : Geometry) (roles : Roles) (r : Record) (i : Journal) (s : SealedTx) (n : ℕ) (turn : IsInOneTurn g s.tx s.written n) where
  abbrev j : Journal
  j = record i { sealed = Some s }

  abbrev k : Journal
  k = with_written j s n

  abbrev first : ℕ
  first = ring_place g ((s.tx.first + s.written) % ring_of g)

  abbrev bytes : List ℕ
  bytes = sectors_from (tx_bytes s.tx.deltas s.tx.tid j.oldest.epoch) s.written n

  abbrev home : Image
  home = present_of r

  abbrev next : Image
  next = overwritten home first bytes

  module _ (safe : IsSafe g roles r j) where
    geometry : IsGeometry g
    geometry = (ring_at_home g roles r j safe).begins.geometry

    stands : StandsAt g j.oldest.head (sectors_of_txs j.committed) (j.oldest.tid + length j.committed) s.tx
    stands = safe.room.sealed.stand.0

    size : length bytes ≡ 512 * n
    size =
        let whole : List ℕ = tx_bytes s.tx.deltas s.tx.tid j.oldest.epoch in
        omega (arith, tx_size g s.tx.deltas s.tx.tid j.oldest.epoch stands.loggable, stands.size, turn.sectors, length-take (512 * n) (drop (512 * s.written) whole), length-drop (512 * s.written) whole)

    groups : 512 * ring_place g (ring_of g) ≤ 4096 * group_start g 0
    groups = omega (arith, geometry.log_low, geometry.log_step)

    big : 512 * ring_place g (ring_of g) ≤ length r.opening
    big = omega (arith, groups, size_of_opening g roles r j safe)

    end : 512 * first + length bytes ≤ 512 * ring_place g (ring_of g)
    end = omega (arith, size, turn.places)

    in_groups : (b i : ℕ) → group_start g 0 ≤ b → IsBeside first bytes (4096 * b + i)
    in_groups b i from = inr (omega (arith, end, groups, from))

    lies : LiesBeside roles r j first bytes
    lies = record {
      whole = omega (arith, size);
      inside = omega (arith, end, big);
      metadata = λ v b m i role inside. in_groups b i (metadata_place g roles r j safe v b m i role inside).0;
      held = λ b i held inside. in_groups b i (held_place g roles r j b safe j.roll safe.roll held);
    }

    -- what a crash left of the write
    module _ (old new : Image) (long : length old ≡ length r.opening) (partly : IsPartlyWritten first bytes old new) where
      ring_kept : IsLogRing g j.oldest (ring_sector g old) j.committed (tx_written (Some s)) → IsLogRing g j.oldest (ring_sector g new) j.committed (tx_written k.sealed)
      ring_kept ring = elim (cases_Bool (eqb (s.written + n) 0)) [
        | inl none ↦
            let zero_both : s.written + n ≡ 0 = eqb-true (s.written + n) 0 none in
            let before : tx_written (Some s) ≡ [] = cond-true (eqb s.written 0) [] (s.tx ∷ []) (eq-eqb s.written 0 (omega (arith, zero_both))) in
            subst (λ (l : List Tx). IsLogRing g j.oldest (ring_sector g new) j.committed l) (before ∙ sym (cond-true (eqb (s.written + n) 0) [] (s.tx ∷ []) none))
            (step_same g j.oldest (ring_sector g old) (ring_sector g new) j.committed (tx_written (Some s))
            (λ place below. kept_beside first bytes old new (ring_place g place) (omega (arith, size)) (omega (arith, end, big, long)) partly
            (elim (cases_lt (ring_place g place) first) [ inl low ↦ inl low | inr high ↦ inr (omega (arith, high, size, zero_both)) ])) ring)
        | inr some ↦
            subst (λ (l : List Tx). IsLogRing g j.oldest (ring_sector g new) j.committed l) (sym (cond-false (eqb (s.written + n) 0) [] (s.tx ∷ []) some))
            (piece_ring g j.oldest old new j.committed [] [] s.tx s.written n (ring_opened g j.oldest (ring_sector g old) j.committed s safe.room.sealed ring) (omega (arith, big, long)) turn partly)
      ]

      header_kept : sector new (header_sector g) ≡ sector old (header_sector g)
      header_kept = piece_header g j.oldest old new j.committed [] [] s.tx s.written n safe.room.sealed (omega (arith, big, long)) turn partly

      super_kept : sector new 16 ≡ sector old 16
      super_kept = kept_beside first bytes old new 16 (omega (arith, size)) (omega (arith, end, big, long)) partly (inl (omega arith))

      image_kept : IsSafeImage g roles home j old → IsSafeImage g roles next k new
      image_kept is =
          record {
            geometry = same_geometry g old new partly.size super_kept is.geometry;
            header = elim is.header [
              | inl oldest ↦ inl (ap (header_of g) header_kept ∙ oldest)
              | inr newest ↦ inr (ap (header_of g) header_kept ∙ newest)
            ];
            ring = ring_kept is.ring;
            whole = λ v logged. gives_beside g roles r j first bytes safe lies v (txs_of g j v) (txs_of g j v) old new long partly (is.whole v logged);
            rest = λ v logged. gives_beside g roles r j first bytes safe lies v (txs_of g j v) (txs_after g j (home_count j.roll) v) old new long partly (is.rest v logged);
          }

    same_written : (v : Version) → GivesMetadata (roles v) home (txs_of g j v) (present_of (with_calls r (Write first bytes ∷ []))) (txs_of g j v)
    same_written v =
        subst (λ (image : Image). GivesMetadata (roles v) home (txs_of g j v) image (txs_of g j v)) (sym (present_after r (Write first bytes ∷ [])))
        record { each = same_beside g roles r j first bytes safe lies v (txs_of g j v) }

    writes : IsSafe g (moved Stays roles) (with_calls r (Write first bytes ∷ [])) k
    writes =
        let v = safe.versions in
        let o = safe.owners in
        let ok = sectors_after r (Write first bytes) safe.sectors (omega (arith, size), omega (arith, end, big)) in
        let same : present_of (with_calls r (Write first bytes ∷ [])) ≡ next = present_after r (Write first bytes ∷ []) in
        let long : length home ≡ length r.opening = size_of_present r safe.sectors in
        let partly = next_partly g roles r j first bytes safe lies in
        record {
          sectors = ok;
          each = λ image left.
              let before = left_by_write r first bytes image ok left in
              subst (λ (h : Image). IsSafeImage g roles h k image) (sym same) (image_kept before.0 image before.1.size before.2 (safe.each before.0 before.1));
          present = subst (λ (h : Image). IsPresent g h k) (sym same) (record {
            header = ap (header_of g) (header_kept home next long partly) ∙ safe.present.header;
            sealed = record {
              within = turn.sectors;
              stands = piece_stands g j.oldest home j.committed [] [] s.tx s.written n (ring_opened g j.oldest (ring_sector g home) j.committed s safe.room.sealed (ring_at_home g roles r j safe)) (omega (arith, big, long)) turn safe.present.sealed.stands;
            };
            rolled = rolled_beside g roles r j first bytes safe lies safe.present.rolled;
          });
          versions = record {
            loggable = v.loggable;
            places = v.places;
            sizes = v.sizes;
            laid = v.laid;
            covered = v.covered;
            cancelled = v.cancelled;
            sealed = v.sealed;
            running = v.running;
            freed = v.freed;
          };
          roll = roll_kept g roles roles j k j.roll (λ batch of is. record { some = is.some; committed = is.committed; held = is.held; left = is.left; cancelled = is.cancelled }) safe.roll;
          owners = record {
            claimed = o.claimed;
            gone = λ b unclaimed freed. let gone = o.gone b unclaimed freed in record { unclaimed = gone.unclaimed; uncancelled = gone.uncancelled };
            in_hand = o.in_hand;
            freed_last = o.freed_last;
            freed_low = o.freed_low;
            freed_high = o.freed_high;
          };
          room = record { oldest = safe.room.oldest; sealed = safe.room.sealed; number = safe.room.number; fits = safe.room.fits; unspent = safe.room.unspent };
        }

pub keeps_log_write : (g : Geometry) (roles : Roles) (r : Record) (j : Journal) (s : SealedTx) (n : ℕ) → IsSafe g roles r j → j.sealed ≡ Some s → IsInOneTurn g s.tx s.written n
    → IsSafe g (moved Stays roles) (with_calls r (tx_write g j.oldest.epoch s.tx s.written n ∷ [])) (with_written j s n)
keeps_log_write g roles r j s n safe sealed turn =
    writes g roles r j s n turn (subst (λ (o : Option SealedTx). IsSafe g roles r (record j { sealed = o })) sealed safe)

-- the versions give the same metadata
pub logged_bytes : (g : Geometry) (roles : Roles) (r : Record) (j : Journal) (s : SealedTx) (n : ℕ) (v : Version) → IsSafe g roles r j → j.sealed ≡ Some s → IsInOneTurn g s.tx s.written n
    → GivesMetadata (roles v) (present_of r) (txs_of g j v) (present_of (with_calls r (tx_write g j.oldest.epoch s.tx s.written n ∷ []))) (txs_of g (with_written j s n) v)
logged_bytes g roles r j s n v safe sealed turn =
    subst (λ (o : Option SealedTx). GivesMetadata (roles v) (present_of r) (txs_of g (record j { sealed = o }) v) (present_of (with_calls r (tx_write g j.oldest.epoch s.tx s.written n ∷ []))) (txs_of g (with_written j s n) v))
    (sym sealed) (same_written g roles r j s n turn (subst (λ (o : Option SealedTx). IsSafe g roles r (record j { sealed = o })) sealed safe) v)
