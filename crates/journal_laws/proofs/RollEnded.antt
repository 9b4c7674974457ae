-- A roll ends: the batch is no longer among the transactions of the log.
use Rattle.std.proofs.Common.{◌≡◌, ◌<◌, ◌≤◌, inl, inr, ℕ, ◌+◌, ◌*◌, ◌/◌, ◌^◌, Bool, true, false, cond, List, [], ◌∷◌, ◌++◌, length, take, drop, Option, Some, None, is_some, IsSome, IfSome, refl, sym, ap, ◌∙◌, subst, arith, append_assoc, length-append}
use Rattle.std.proofs.lemmas.Bool.{true≢false, cases_Bool}
use Rattle.std.proofs.lemmas.List.{append-nil, take-append-drop}
use Rattle.std.proofs.lemmas.List.Sums.{sum_by-append}
use Rattle.lufs_base.specs.Layout.{IsGeometry}
use Rattle.lufs_base.specs.declared.geometry.Geometry.{Geometry}
use Rattle.volume_model.specs.declared.device_call.DeviceCall.TheVariants.{Flush}
use Rattle.volume_model.specs.declared.log.Header.{Header}
use Rattle.volume_model.specs.declared.log.Tx.{Tx}
use Rattle.volume_model.specs.Format.{Image}
use Rattle.volume_model.specs.Log.{tx_sectors, live_deltas}
use Rattle.volume_model.specs.Crash.{Record, with_calls, present_of}
use Rattle.log_laws.specs.TxsInRing.{sectors_of_txs, trimmed}
use Rattle.log_laws.specs.LogRing.{AreNext, IsLogRing}
use Rattle.log_laws.specs.LogOnImage.{ring_sector}
use Rattle.log_laws.proofs.RingKept.{next_trimmed}
use Rattle.log_laws.proofs.JournalSteps.{step_trim}
use Rattle.journal_model.specs.Journals.{Batch, Roll, Idle, Trimmed, Freed, Journal}
use Rattle.journal_model.specs.Versions.{Version, Published, Sealed, Running, sealed_txs, written_txs, header_after, next_header, later_of, txs_after, txs_of}
use Rattle.journal_model.specs.LaidBlocks.{given_by, replayed_byte, is_laid_by, is_cancelled_by}
use Rattle.journal_model.specs.BlockRoles.{Metadata, Roles, is_metadata}
use Rattle.journal_model.specs.Batches.{batch_of, trimmed_count}
use Rattle.journal_model.specs.SafeImages.{HasHeader, IsSafeImage}
use Rattle.journal_model.specs.Kept.{HaveRoles, IsBatch, IsRoll, HaveOwners, HasRoom}
use Rattle.journal_model.specs.Safety.{IsRolledSoFar, IsPresent, IsSafe}
use Rattle.journal_laws.proofs.Replays.{LieInBlocks, each_right, else_by, given_by_parts, not_laid_gives_none, laid_later}
use Rattle.journal_laws.proofs.Outcomes.{present_after, sectors_after, left_by_flush}
use Rattle.journal_laws.proofs.RollFacts.{ring_at_home, geometry_at_home, committed_loggable, metadata_place, all_lie, parts_of, header_after_none, header_after_may, trimmed_twice}
use Rattle.journal_laws.proofs.RollFlushed.{byte_without_batch}

-- the journal without the batch
abbrev pub without_batch : Geometry → Journal → Batch → Journal
without_batch g j batch = record j { committed = drop batch.count j.committed; oldest = header_after g j batch.count; roll = Idle }

-- what deltas give that come after others, where these give nothing
some_of_later : (later before other : Option ℕ) (c d : Bool) → before ≡ None → IsSome (else_by later (cond c None before)) → IsSome (else_by later (cond d None other))
some_of_later (Some byte) before other c d none some = refl
some_of_later None before other true d none some = absurd (true≢false (sym some))
some_of_later None before other false d none some = absurd (true≢false (sym some ∙ ap (λ (o : Option ℕ). is_some o) none))

module _ (g : Geometry) (j : Journal) (batch : Batch) where
  abbrev k : Journal
  k = without_batch g j batch

  abbrev before : List Tx
  before = take batch.count j.committed

  abbrev rest : List Tx
  rest = drop batch.count j.committed

  both : before ++ rest ≡ j.committed
  both = take-append-drop batch.count j.committed

  pub next_stays : next_header g k ≡ next_header g j
  next_stays =
      trimmed_twice g j.oldest before (rest ++ sealed_txs j)
      ∙ ap (trimmed g j.oldest) (sym (append_assoc before rest (sealed_txs j)) ∙ ap (λ (l : List Tx). l ++ sealed_txs j) both)

  pub later_stays : (v : Version) → later_of g k v ≡ later_of g j v
  later_stays Published = refl
  later_stays Sealed = refl
  later_stays Running = ap (λ (h : Header). sealed_txs j ++ record { tid = h.tid; first = h.head; sectors = tx_sectors j.running; deltas = j.running } ∷ []) next_stays

  pub txs_without : (v : Version) → txs_of g k v ≡ txs_after g j batch.count v
  txs_without v = ap (λ (l : List Tx). rest ++ l) (later_stays v)

  rest_ring : (home : Image) → IsLogRing g j.oldest (ring_sector g home) j.committed (written_txs j) → IsLogRing g k.oldest (ring_sector g home) k.committed (written_txs k)
  rest_ring home ring =
      step_trim g j.oldest (ring_sector g home) before rest (written_txs j)
      (subst (λ (l : List Tx). IsLogRing g j.oldest (ring_sector g home) l (written_txs j)) (sym both) ring)

  fewer_sectors : sectors_of_txs rest ≤ sectors_of_txs j.committed
  fewer_sectors =
      let sum : sectors_of_txs (before ++ rest) ≡ sectors_of_txs before + sectors_of_txs rest = sum_by-append (λ (t : Tx). t.sectors) before rest in
      let whole : sectors_of_txs (before ++ rest) ≡ sectors_of_txs j.committed = ap sectors_of_txs both in
      omega (arith, sum, whole)

  room_without : IsGeometry g → HasRoom g j → HasRoom g k
  room_without geometry h = record {
    oldest = header_after_may g j batch.count geometry h;
    sealed = next_trimmed g j.oldest before rest (sealed_txs j) (subst (λ (l : List Tx). AreNext g j.oldest l (sealed_txs j)) (sym both) h.sealed);
    number = subst (λ (n : Header). n.tid < 2 ^ 32) (sym next_stays) h.number;
    fits = λ is_open. omega (arith, h.fits is_open, fewer_sectors);
    unspent = h.unspent;
  }

  owners_without : (roles : Roles) → HaveOwners g roles j → HaveOwners g roles k
  owners_without roles h =
      let count : length before + length rest ≡ length j.committed = sym (length-append before rest) ∙ ap length both in
      record {
        claimed = h.claimed;
        gone = λ b unclaimed not_freed. let is = h.gone b unclaimed not_freed in
            record { unclaimed = is.unclaimed; uncancelled = ap (λ (l : List Tx). is_cancelled_by l b) (later_stays Running) ∙ is.uncancelled };
        in_hand = λ b unclaimed live. refl;
        freed_last = λ b unclaimed was. h.freed_last b unclaimed was ∙ ap (λ (n : Header). Freed n.tid) (sym next_stays);
        freed_low = λ b tid is. omega (arith, h.freed_low b tid is, count);
        freed_high = λ b tid is. subst (λ (n : Header). tid ≤ n.tid) (sym next_stays) (h.freed_high b tid is);
      }

  module _ (roles : Roles) (h : HaveRoles g roles j) (lie : LieInBlocks j.committed) where
    covered_without : (v : Version) (b n i : ℕ) → roles v b ≡ Metadata n → is_metadata (roles Published b) ≡ false → i < n → i < 4096
        → IsSome (given_by (live_deltas (txs_of g k v)) (4096 * b + i))
    covered_without v b n i role other below inside =
        let a : ℕ = 4096 * b + i in
        let later : List Tx = later_of g j v in
        let block_of : a / 4096 ≡ b = omega (arith, inside) in
        let not_laid : is_laid_by j.committed b ≡ false = elim (cases_Bool (is_laid_by j.committed b)) [
          | inl laid ↦ absurd (true≢false (sym (h.laid Published b (ap (λ (l : List Tx). is_laid_by l b) (append-nil j.committed) ∙ laid)) ∙ other))
          | inr none ↦ none
        ] in
        let none : given_by (live_deltas j.committed) a ≡ None = not_laid_gives_none j.committed a lie (ap (is_laid_by j.committed) block_of ∙ not_laid) in
        let c : Bool = is_cancelled_by later (a / 4096) in
        let lie_rest : LieInBlocks rest = each_right _ before rest (subst LieInBlocks (sym both) lie) in
        let was : IsSome (else_by (given_by (live_deltas later) a) (cond c None (given_by (live_deltas j.committed) a))) =
        sym (ap (λ (o : Option ℕ). is_some o) (given_by_parts j.committed later a c refl lie)) ∙ h.covered v b n i role other below in
        let now : IsSome (else_by (given_by (live_deltas later) a) (cond c None (given_by (live_deltas rest) a))) =
        some_of_later (given_by (live_deltas later) a) (given_by (live_deltas j.committed) a) (given_by (live_deltas rest) a) c c none was in
        subst (λ (l : List Tx). IsSome (given_by (live_deltas (rest ++ l)) a)) (sym (later_stays v)) (ap (λ (o : Option ℕ). is_some o) (given_by_parts rest later a c refl lie_rest) ∙ now)

    versions_without : HaveRoles g roles k
    versions_without = record {
      loggable = h.loggable;
      places = h.places;
      sizes = h.sizes;
      laid = λ v b laid.
          let all : is_laid_by (before ++ txs_after g j batch.count v) b ≡ true = laid_later before (txs_after g j batch.count v) b (sym (ap (λ (l : List Tx). is_laid_by l b) (txs_without v)) ∙ laid) in
          h.laid v b (sym (ap (λ (l : List Tx). is_laid_by l b) (parts_of g j batch.count v)) ∙ all);
      covered = λ v b n i role other below. covered_without v b n i role other below (let size : n ≤ 4096 = h.sizes v b n role in omega (arith, size, below));
      cancelled = λ v b cancelled. h.cancelled v b (sym (ap (λ (l : List Tx). is_cancelled_by l b) (later_stays v)) ∙ cancelled);
      sealed = h.sealed;
      running = h.running;
      freed = h.freed;
    }

module _ (g : Geometry) (roles : Roles) (r : Record) (j : Journal) (batch : Batch) (geometry : IsGeometry g) (safe : IsSafe g roles r j) (was : j.roll ≡ Trimmed batch) where
  abbrev home : Image
  home = present_of r

  ended_batch : IsBatch g roles j batch
  ended_batch = (subst (IsRoll g roles j) was safe.roll).0

  ended_left : batch.left ≡ []
  ended_left = (subst (IsRoll g roles j) was safe.roll).1

  ended_rolled : IsRolledSoFar home j batch
  ended_rolled = subst (λ (roll : Roll). IfSome (batch_of roll) (IsRolledSoFar home j)) was safe.present.rolled

  ended_header : HasHeader g home (header_after g j batch.count)
  ended_header = subst (λ (roll : Roll). HasHeader g home (header_after g j (trimmed_count roll))) was safe.present.header

  -- each version keeps its metadata
  pub ended_bytes : (v : Version) (c n i : ℕ) → roles v c ≡ Metadata n → i < n
      → replayed_byte home (txs_of g (without_batch g j batch) v) (4096 * c + i) ≡ replayed_byte home (txs_of g j v) (4096 * c + i)
  ended_bytes v c n i role below =
      ap (λ (l : List Tx). replayed_byte home l (4096 * c + i)) (txs_without g j batch v)
      ∙ byte_without_batch g roles r j batch safe ended_batch ended_rolled ended_left v c i (metadata_place g roles r j safe v c n i role below).2

  image_ended : IsSafeImage g roles home (without_batch g j batch) home
  image_ended = record {
    geometry = geometry_at_home g roles r j safe;
    header = inl ended_header;
    ring = rest_ring g j batch home (ring_at_home g roles r j safe);
    whole = λ v logged. record { each = λ c n i role below. refl };
    rest = λ v logged. record { each = λ c n i role below. refl };
  }

  pub keeps_trim_flush : IsSafe g roles (with_calls r (Flush ∷ [])) (record j { committed = drop batch.count j.committed; oldest = header_after g j batch.count; roll = Idle })
  keeps_trim_flush =
      let k : Journal = without_batch g j batch in
      let now : present_of (with_calls r (Flush ∷ [])) ≡ home = present_after r (Flush ∷ []) in
      let sectors = sectors_after r Flush safe.sectors tt in
      record {
        sectors = sectors;
        each = λ image outcome.
            let is = left_by_flush r image sectors outcome in
            subst (λ (i : Image). IsSafeImage g roles i k image) (sym now) (subst (IsSafeImage g roles home k) (sym is) image_ended);
        present = subst (λ (i : Image). IsPresent g i k) (sym now) record {
          header = subst (HasHeader g home) (sym (header_after_none g k (header_after_may g j batch.count geometry safe.room))) ended_header;
          sealed = safe.present.sealed;
          rolled = tt;
        };
        versions = versions_without g j batch roles safe.versions (all_lie g j.committed (committed_loggable g roles r j safe));
        roll = tt;
        owners = owners_without g j batch roles safe.owners;
        room = room_without g j batch geometry safe.room;
      }
