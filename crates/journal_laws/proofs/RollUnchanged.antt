-- Each step of a roll leaves the versions that a mount may recover.
use Rattle.std.proofs.Common.{◌≡◌, ◌<◌, ◌≤◌, ◌⊎◌, inl, inr, ℕ, ◌+◌, ◌*◌, true, List, [], ◌∷◌, ◌++◌, length, take, drop, slice_index, IfSome, refl, sym, ap, ◌∙◌, subst, arith}
use Rattle.std.proofs.lemmas.Bool.{true≢false}
use Rattle.std.proofs.lemmas.List.{take-append-drop}
use Rattle.lufs_base.specs.Layout.{IsGeometry, header_sector}
use Rattle.lufs_base.specs.declared.geometry.Geometry.{Geometry}
use Rattle.volume_model.specs.declared.device_call.DeviceCall.TheVariants.{Write, Flush}
use Rattle.volume_model.specs.declared.log.Header.{Header}
use Rattle.volume_model.specs.declared.log.Tx.{Tx}
use Rattle.volume_model.specs.Format.{Image, block}
use Rattle.volume_model.specs.Log.{header_bytes, Listed, WithHeader, log_of, replayed}
use Rattle.volume_model.specs.Crash.{Record, with_calls, Outcome, IsPartlyWritten, present_of}
use Rattle.log_laws.specs.LogOnImage.{HasLog}
use Rattle.log_laws.proofs.ImageSteps.{no_later_ident, same_log_of, trim_written}
use Rattle.journal_model.specs.Journals.{Batch, Roll, Writing, Home, Trimmed, Journal}
use Rattle.journal_model.specs.Versions.{Version, Published, Sealed, Running, is_logged, sealed_txs, written_txs, header_after, later_of, txs_after, txs_of}
use Rattle.journal_model.specs.LaidBlocks.{replayed_byte}
use Rattle.journal_model.specs.BlockRoles.{FileBytes, Roles}
use Rattle.journal_model.specs.Batches.{home_count, trimmed_count}
use Rattle.journal_model.specs.SafeImages.{HasHeader, GivesMetadata, IsSafeImage}
use Rattle.journal_model.specs.Safety.{IsSafe}
use Rattle.journal_model.specs.Recovery.{Recovers}
use Rattle.journal_laws.specs.Rolls.{MayRecover}
use Rattle.journal_laws.proofs.Replays.{each_right}
use Rattle.journal_laws.proofs.Outcomes.{no_calls, present_after, present_left, sectors_after, left_by_write, left_by_flush}
use Rattle.journal_laws.proofs.RollFacts.{ring_at_home, version_loggable, all_lie, header_after_none}
use Rattle.journal_laws.proofs.RollKept.{with_roll}
use Rattle.journal_laws.proofs.RollPick.{whole_batch}
use Rattle.journal_laws.proofs.RollWritten.{write_inside, log_kept}
use Rattle.journal_laws.proofs.RollTrimmed.{trim_inside, opening_big, newest_may, ring_stays}
use Rattle.journal_laws.proofs.RollEnded.{without_batch, txs_without}
use Rattle.journal_laws.proofs.RollRecovered.{files_stay, AllLow, AllHigh, stand_low, stand_high, few_written, written_high, same_later}

-- with a roll that has trimmed nothing an image recovers what it does with the other one
same_recovered : (g : Geometry) (roles : Roles) (home : Image) (j : Journal) (roll : Roll) (image : Image) (v : Version) → trimmed_count roll ≡ 0 → Recovers g roles home (with_roll j roll) image v → Recovers g roles home j image v
same_recovered g roles home j roll image v none h = record {
  header = h.header;
  count = h.count;
  trimmed = inl (elim h.trimmed [ inl zero ↦ zero | inr is ↦ is ∙ none ]);
  log = h.log;
  logged = h.logged;
  sealed = h.sealed;
  metadata = h.metadata;
  files = h.files;
  idents = h.idents;
}

pub before_pick : (g : Geometry) (roles : Roles) (r : Record) (j : Journal) (held : List ℕ) (v : Version)
    → MayRecover g roles (with_calls r []) (with_roll j (Writing (whole_batch j held))) v → MayRecover g roles r j v
before_pick g roles r j held v may =
    let m : MayRecover g roles r (with_roll j (Writing (whole_batch j held))) v = subst (λ (q : Record). MayRecover g roles q (with_roll j (Writing (whole_batch j held))) v) (no_calls r) may in
    record { image = m.image; outcome = m.outcome; recovers = same_recovered g roles (present_of r) j (Writing (whole_batch j held)) m.image v refl m.recovers }

module _ (g : Geometry) (roles : Roles) (r : Record) (j : Journal) (safe : IsSafe g roles r j) where
  abbrev home : Image
  home = present_of r

  files_of : (image : Image) (v : Version) (n b i : ℕ) → roles v b ≡ FileBytes → i < 4096 → replayed_byte image (txs_after g j n v) (4096 * b + i) ≡ slice_index image (4096 * b + i)
  files_of image v n b i role inside = files_stay g roles j image v n b i safe.versions (all_lie g (txs_of g j v) (version_loggable g roles r j safe v)) role inside

  oldest_log : (image : Image) → trimmed_count j.roll ≡ 0 → IsSafeImage g roles home j image → HasLog g j.oldest image j.committed (written_txs j)
  oldest_log image none h = record {
    header = elim h.header [
      | inl oldest ↦ oldest
      | inr other ↦ subst (HasHeader g image) (ap (header_after g j) none ∙ header_after_none g j safe.room.oldest) other
    ];
    ring = h.ring;
  }

  -- an image that lists all transactions of a version recovers it
  whole_recovers : (image : Image) (header : Header) (v : Version) → trimmed_count j.roll ≡ 0 → IsSafeImage g roles home j image → is_logged v ≡ true → (v ≡ Sealed → IfSome j.sealed (λ s. 1 ≤ s.written))
      → log_of g image ≡ WithHeader header (Listed (txs_of g j v)) → Recovers g roles home j image v
  whole_recovers image header v none h logged sealed lists = record {
    header = header;
    count = 0;
    trimmed = inl refl;
    log = lists;
    logged = logged;
    sealed = sealed;
    metadata = h.whole v logged;
    files = λ b i role inside. files_of image v 0 b i role inside;
    idents = no_later_ident g j.oldest image j.committed (written_txs j) (oldest_log image none h);
  }

  pub before_roll_flush : (batch : Batch) (v : Version) → j.roll ≡ Writing batch
      → MayRecover g roles (with_calls r (Flush ∷ [])) (with_roll j (Home batch)) v → MayRecover g roles r j v
  before_roll_flush batch v writing may =
      let now : present_of (with_calls r (Flush ∷ [])) ≡ home = present_after r (Flush ∷ []) in
      let is : may.image ≡ home = left_by_flush r may.image (sectors_after r Flush safe.sectors tt) may.outcome in
      record {
        image = home;
        outcome = present_left r safe.sectors;
        recovers = same_recovered g roles home j (Home batch) home v refl
            (subst (λ (i : Image). Recovers g roles home (with_roll j (Home batch)) i v) is (subst (λ (i : Image). Recovers g roles i (with_roll j (Home batch)) may.image v) now may.recovers));
      }

  pub before_trim_flush : (batch : Batch) (v : Version) → j.roll ≡ Trimmed batch
      → MayRecover g roles (with_calls r (Flush ∷ [])) (without_batch g j batch) v → MayRecover g roles r j v
  before_trim_flush batch v was may =
      let k : Journal = without_batch g j batch in
      let now : present_of (with_calls r (Flush ∷ [])) ≡ home = present_after r (Flush ∷ []) in
      let is : may.image ≡ home = left_by_flush r may.image (sectors_after r Flush safe.sectors tt) may.outcome in
      let after : Recovers g roles home k home v = subst (λ (i : Image). Recovers g roles home k i v) is (subst (λ (i : Image). Recovers g roles i k may.image v) now may.recovers) in
      let none : after.count ≡ 0 = elim after.trimmed [ inl zero ↦ zero | inr zero ↦ zero ] in
      let listed : txs_after g k after.count v ≡ txs_after g j batch.count v = ap (λ (n : ℕ). txs_after g k n v) none ∙ txs_without g j batch v in
      record {
        image = home;
        outcome = present_left r safe.sectors;
        recovers = record {
          header = after.header;
          count = batch.count;
          trimmed = inr (sym (ap trimmed_count was));
          log = after.log ∙ ap (λ (l : List Tx). WithHeader after.header (Listed l)) listed;
          logged = after.logged;
          sealed = after.sealed;
          metadata = subst (λ (roll : Roll). GivesMetadata (roles v) home (txs_of g j v) home (txs_after g j (home_count roll) v)) was ((safe.each home (present_left r safe.sectors)).rest v after.logged);
          files = λ b i role inside. files_of home v batch.count b i role inside;
          idents = after.idents;
        };
      }

  pub before_roll_write : (batch : Batch) (b : ℕ) (left : List ℕ) (v : Version) → IsGeometry g → j.roll ≡ Writing batch → batch.left ≡ b ∷ left
      → MayRecover g roles (with_calls r (Write (8 * b) (block (replayed home (take batch.count j.committed)) b) ∷ [])) (with_roll j (Writing (record batch { left = left }))) v → MayRecover g roles r j v
  before_roll_write batch b left v geometry writing next may =
      let bytes : List ℕ = block (replayed home (take batch.count j.committed)) b in
      let sectors = sectors_after r (Write (8 * b) bytes) safe.sectors (write_inside g roles r j batch b left geometry safe writing next) in
      let e : (old : Image) × Outcome r (length r.calls) old × IsPartlyWritten (8 * b) bytes old may.image = left_by_write r (8 * b) bytes may.image sectors may.outcome in
      let none : may.recovers.count ≡ 0 = elim may.recovers.trimmed [ inl zero ↦ zero | inr zero ↦ zero ] in
      let same = log_kept g roles r j batch b left geometry safe writing next e.0 may.image e.1.size e.2 in
      record {
        image = e.0;
        outcome = e.1;
        recovers = whole_recovers e.0 may.recovers.header v (ap trimmed_count writing) (safe.each e.0 e.1) may.recovers.logged may.recovers.sealed
            (sym (same_log_of g e.0 may.image same) ∙ may.recovers.log ∙ ap (λ (n : ℕ). WithHeader may.recovers.header (Listed (txs_after g j n v))) none);
      }

  -- the numbers of the transactions, by that of the sealed one
  abbrev number : ℕ
  number = j.oldest.tid + length j.committed

  low_committed : AllLow number j.committed
  low_committed = stand_low g j.oldest.head 0 j.oldest.tid number j.committed (ring_at_home g roles r j safe).begins.stand (omega arith)

  low_rest : (n : ℕ) → AllLow number (drop n j.committed)
  low_rest n = each_right _ (take n j.committed) (drop n j.committed) (subst (AllLow number) (sym (take-append-drop n j.committed)) low_committed)

  high_sealed : AllHigh number (sealed_txs j)
  high_sealed = stand_high g j.oldest.head _ number number (sealed_txs j) safe.room.sealed.stand (omega arith)

  high_later : (v : Version) → is_logged v ≡ true → AllHigh number (later_of g j v)
  high_later Published logged = tt
  high_later Sealed logged = high_sealed
  high_later Running logged = absurd (true≢false (sym logged))

  pub before_trim : (batch : Batch) (v : Version) → IsGeometry g → j.roll ≡ Home batch
      → MayRecover g roles (with_calls r (Write (header_sector g) (header_bytes (header_after g j batch.count)) ∷ [])) (with_roll j (Trimmed batch)) v → MayRecover g roles r j v
  before_trim batch v geometry at_home may =
      let newest : Header = header_after g j batch.count in
      let bytes : List ℕ = header_bytes newest in
      let sectors = sectors_after r (Write (header_sector g) bytes) safe.sectors (trim_inside g roles r j batch geometry safe at_home) in
      let e : (old : Image) × Outcome r (length r.calls) old × IsPartlyWritten (header_sector g) bytes old may.image = left_by_write r (header_sector g) bytes may.image sectors may.outcome in
      let old : Image = e.0 in
      let new : Image = may.image in
      let none : trimmed_count j.roll ≡ 0 = ap trimmed_count at_home in
      let h : IsSafeImage g roles home j old = safe.each old e.1 in
      let was : HasLog g j.oldest old j.committed (written_txs j) = oldest_log old none h in
      let both : take batch.count j.committed ++ drop batch.count j.committed ≡ j.committed = take-append-drop batch.count j.committed in
      let ring = ring_stays g roles r j batch geometry safe at_home old new e.1.size e.2 in
      let later : List Tx = later_of g j v in
      let high : AllHigh number later = high_later v may.recovers.logged in
      let highs : AllHigh number (written_txs j) = written_high number j high_sealed in
      let cut : HasLog g j.oldest new j.committed (written_txs j) ⊎ HasLog g newest new (drop batch.count j.committed) (written_txs j) =
      subst (λ (l : List Tx). HasLog g j.oldest new l (written_txs j) ⊎ HasLog g newest new (drop batch.count j.committed) (written_txs j)) both
      (trim_written g j.oldest old new (take batch.count j.committed) (drop batch.count j.committed) (written_txs j)
      (subst (λ (l : List Tx). HasLog g j.oldest old l (written_txs j)) (sym both) was)
      (let size = e.1.size in omega (arith, size, opening_big g roles r j batch geometry safe at_home)) (newest_may g roles r j batch geometry safe at_home) e.2) in
      let lists : log_of g old ≡ WithHeader j.oldest (Listed (j.committed ++ later)) = elim cut [
        | inl first ↦
            same_later g j.oldest j.oldest may.recovers.header old new number j.committed j.committed (drop may.recovers.count j.committed) later geometry refl ring
            low_committed (low_rest may.recovers.count) high may.recovers.log (written_txs j) (few_written j) highs was first
        | inr rest ↦
            same_later g j.oldest newest may.recovers.header old new number j.committed (drop batch.count j.committed) (drop may.recovers.count j.committed) later geometry refl ring
            (low_rest batch.count) (low_rest may.recovers.count) high may.recovers.log (written_txs j) (few_written j) highs was rest
      ] in
      record {
        image = old;
        outcome = e.1;
        recovers = whole_recovers old j.oldest v none h may.recovers.logged may.recovers.sealed lists;
      }
