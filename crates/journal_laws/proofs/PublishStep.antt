-- A commit ends: the sealed transaction is all written, and a flush keeps it.
use Rattle.std.proofs.Common.{◌≡◌, ◌<◌, ◌≤◌, inl, inr, ℕ, ◌+◌, ◌*◌, true, false, ◌||◌, List, [], ◌∷◌, ◌++◌, length, drop, Option, Some, None, IsSome, refl, sym, ap, ◌∙◌, subst, arith, append_assoc, length-append}
use Rattle.std.proofs.lemmas.Bool.{false≢true, true≢false, false_from_ne_true, or_parts, or_right}
use Rattle.std.proofs.lemmas.List.{append-nil, take-append-le, drop-append-le}
use Rattle.std.proofs.lemmas.List.Sums.{sum_by-append}
use Rattle.std.proofs.lemmas.Option.{none-some, same_Some}
use Rattle.lufs_base.specs.declared.geometry.Geometry.{Geometry}
use Rattle.volume_model.specs.declared.device_call.DeviceCall.TheVariants.{Flush}
use Rattle.volume_model.specs.declared.log.Header.{Header}
use Rattle.volume_model.specs.declared.log.Tx.{Tx}
use Rattle.volume_model.specs.Format.{Image}
use Rattle.volume_model.specs.Log.{cancels, live_deltas, tx_sectors}
use Rattle.volume_model.specs.Crash.{Record, with_calls, present_of}
use Rattle.log_laws.specs.TxsInRing.{sectors_of_txs, IsWrittenUpTo, trimmed}
use Rattle.log_laws.specs.LogOnImage.{ring_sector}
use Rattle.log_laws.proofs.JournalSteps.{step_publish}
use Rattle.journal_model.specs.Journals.{SealedTx, Batch, Roll, Idle, Writing, Home, Trimmed, Freed, Journal}
use Rattle.journal_model.specs.Versions.{Version, Published, Sealed, Running, is_logged, header_after, next_header, running_tx, later_of, txs_after, txs_of}
use Rattle.journal_model.specs.LaidBlocks.{given_by, replayed_byte, is_laid_by, is_cancelled_in, is_cancelled_by}
use Rattle.journal_model.specs.BlockRoles.{Metadata, Roles, Publishes, moved, moved_from, is_metadata, is_claimed}
use Rattle.journal_model.specs.Batches.{batch_of, is_released_owner, is_freed_owner, home_count, trimmed_count}
use Rattle.journal_model.specs.SafeImages.{HasHeader, GivesMetadata, IsSafeImage}
use Rattle.journal_model.specs.Kept.{IsBatch, IsRoll, IsGone}
use Rattle.journal_model.specs.Safety.{IsRolledSoFar, IsPresent, IsSafe}
use Rattle.journal_model.specs.Steps.{published_owner}
use Rattle.journal_laws.proofs.Outcomes.{present_after, present_left, sectors_after, left_by_flush}
use Rattle.journal_laws.proofs.OwnerFacts.{freed_by, owner_cases}
use Rattle.journal_laws.proofs.OpenSteps.{roll_kept}
use Rattle.journal_laws.proofs.RollKept.{metadata_is_claimed}
use Rattle.journal_laws.proofs.RoleFacts.{sealed_claims, same_is_next}
use Rattle.journal_laws.proofs.WriteBeside.{if_some_also}
use Rattle.journal_laws.proofs.LogStep.{ring_opened}

-- the batch of a roll
pub batch_is : (g : Geometry) (roles : Roles) (j : Journal) (batch : Batch) (roll : Roll) → IsRoll g roles j roll → batch_of roll ≡ Some batch → IsBatch g roles j batch
batch_is g roles j batch Idle is of = absurd (none-some batch of)
batch_is g roles j batch (Writing some) is of = subst (IsBatch g roles j) (same_Some some batch of) is
batch_is g roles j batch (Home some) is of = subst (IsBatch g roles j) (same_Some some batch of) is.0
batch_is g roles j batch (Trimmed some) is of = subst (IsBatch g roles j) (same_Some some batch of) is.0

-- its transactions are committed ones
pub home_within : (g : Geometry) (roles : Roles) (j : Journal) (roll : Roll) → IsRoll g roles j roll → home_count roll ≤ length j.committed
home_within g roles j Idle is = omega arith
home_within g roles j (Writing batch) is = omega arith
home_within g roles j (Home batch) is = is.0.committed
home_within g roles j (Trimmed batch) is = is.0.committed

pub trimmed_within : (g : Geometry) (roles : Roles) (j : Journal) (roll : Roll) → IsRoll g roles j roll → trimmed_count roll ≤ length j.committed
trimmed_within g roles j Idle is = omega arith
trimmed_within g roles j (Writing batch) is = omega arith
trimmed_within g roles j (Home batch) is = omega arith
trimmed_within g roles j (Trimmed batch) is = is.0.committed

-- the published journal
abbrev pub with_published : Journal → SealedTx → Journal
with_published j s = record j { committed = j.committed ++ s.tx ∷ []; sealed = None; owners = λ b. published_owner s.tx.tid (j.owners b) }

-- of a journal in which this transaction is sealed
module _ (g : Geometry) (roles : Roles) (r : Record) (i : Journal) (s : SealedTx) where
  abbrev j : Journal
  j = record i { sealed = Some s }

  abbrev k : Journal
  k = with_published j s

  abbrev home : Image
  home = present_of r

  abbrev after : Roles
  after = moved Publishes roles

  pub same_next : next_header g k ≡ next_header g j
  same_next = ap (λ (l : List Tx). trimmed g j.oldest l) (append-nil (j.committed ++ s.tx ∷ []))

  same_running : running_tx g k ≡ running_tx g j
  same_running = ap (λ (h : Header). record { tid = h.tid; first = h.head; sectors = tx_sectors j.running; deltas = j.running }) same_next

  -- transactions before the running one, and it
  then_running : (l : List Tx) → (l ++ s.tx ∷ []) ++ running_tx g k ∷ [] ≡ l ++ s.tx ∷ running_tx g j ∷ []
  then_running l = ap (λ (t : Tx). (l ++ s.tx ∷ []) ++ t ∷ []) same_running ∙ append_assoc l (s.tx ∷ []) (running_tx g j ∷ [])

  pub same_txs : (v : Version) → txs_of g k v ≡ txs_of g j (moved_from Publishes v)
  same_txs Published = append-nil (j.committed ++ s.tx ∷ [])
  same_txs Sealed = append-nil (j.committed ++ s.tx ∷ [])
  same_txs Running = then_running j.committed

  same_after : (n : ℕ) (v : Version) → n ≤ length j.committed → txs_after g k n v ≡ txs_after g j n (moved_from Publishes v)
  same_after n Published within = append-nil (drop n (j.committed ++ s.tx ∷ [])) ∙ drop-append-le n j.committed (s.tx ∷ []) within
  same_after n Sealed within = append-nil (drop n (j.committed ++ s.tx ∷ [])) ∙ drop-append-le n j.committed (s.tx ∷ []) within
  same_after n Running within = ap (λ (l : List Tx). l ++ running_tx g k ∷ []) (drop-append-le n j.committed (s.tx ∷ []) within) ∙ then_running (drop n j.committed)

  same_header : (n : ℕ) → n ≤ length j.committed → header_after g k n ≡ header_after g j n
  same_header n within = ap (λ (l : List Tx). trimmed g j.oldest l) (take-append-le n j.committed (s.tx ∷ []) within)

  later_cancels : (v : Version) (b : ℕ) → is_cancelled_by (later_of g k v) b ≡ true → is_cancelled_by (later_of g j (moved_from Publishes v)) b ≡ true
  later_cancels Published b c = absurd (false≢true c)
  later_cancels Sealed b c = absurd (false≢true c)
  later_cancels Running b c = or_right (cancels b s.tx) _ c

  module _ (safe : IsSafe g roles r j) where
    at_home : IsSafeImage g roles home j home
    at_home = safe.each home (present_left r safe.sectors)

    within : home_count j.roll ≤ length j.committed
    within = home_within g roles j j.roll safe.roll

    rest_published : (v : Version) → is_logged v ≡ true → GivesMetadata (after v) home (txs_of g k v) home (txs_after g k (home_count j.roll) v)
    rest_published v logged =
        subst (λ (l : List Tx). GivesMetadata (after v) home l home (txs_after g k (home_count j.roll) v)) (sym (same_txs v))
        (subst (λ (l : List Tx). GivesMetadata (after v) home (txs_of g j (moved_from Publishes v)) home l) (sym (same_after (home_count j.roll) v within))
        (at_home.rest (moved_from Publishes v) (still_logged v logged)))
      where
        still_logged : (v : Version) → is_logged v ≡ true → is_logged (moved_from Publishes v) ≡ true
        still_logged Published logged = refl
        still_logged Sealed logged = refl
        still_logged Running logged = logged

    covered_published : (v : Version) (b n m : ℕ) → after v b ≡ Metadata n → is_metadata (roles Sealed b) ≡ false → m < n → IsSome (given_by (live_deltas (txs_of g k v)) (4096 * b + m))
    covered_published Published b n m role other inside = absurd (true≢false (sym (ap is_metadata role) ∙ other))
    covered_published Sealed b n m role other inside = absurd (true≢false (sym (ap is_metadata role) ∙ other))
    covered_published Running b n m role other inside =
        let none : is_metadata (roles Published b) ≡ false =
        false_from_ne_true (is_metadata (roles Published b)) (λ is.
        let claimed = metadata_is_claimed (roles Published b) is in
        let same = (safe.versions.sealed b).same claimed (sealed_claims g roles j safe.versions b claimed (ap is_claimed role)) in
        true≢false (sym is ∙ ap is_metadata (sym same) ∙ other)) in
        subst (λ (l : List Tx). IsSome (given_by (live_deltas l) (4096 * b + m))) (sym (same_txs Running)) (safe.versions.covered Running b n m role none inside)

    -- the number of the sealed transaction, and the next one
    number : s.tx.tid ≡ j.oldest.tid + length j.committed
    number = safe.room.sealed.stand.0.number

    push : length (j.committed ++ s.tx ∷ []) ≡ length j.committed + 1
    push = length-append j.committed (s.tx ∷ [])

    not_next : (next_header g j).tid ≡ s.tx.tid → ⊥
    not_next same = omega (arith, same, number, push)

    next_tid : (next_header g k).tid ≡ (next_header g j).tid
    next_tid = ap (λ (h : Header). h.tid) same_next

    -- what the sealed transaction freed and the running one doesn't claim is gone
    gone_published : (b : ℕ) → is_claimed (roles Running b) ≡ false → is_claimed (roles Sealed b) ≡ false → is_cancelled_in j.running b ≡ false → IsGone g after k b
    gone_published b last sealed none =
        record {
          unclaimed = unclaimed_in;
          uncancelled = ap (λ (c : _). c || false) none;
        }
      where
        unclaimed_in : (v : Version) → is_claimed (after v b) ≡ false
        unclaimed_in Published = sealed
        unclaimed_in Sealed = sealed
        unclaimed_in Running = last

    gone_after : (b : ℕ) → is_claimed (roles Running b) ≡ false → is_freed_owner (published_owner s.tx.tid (j.owners b)) ≡ false → IsGone g after k b
    gone_after b last none = elim (owner_cases s.tx.tid (j.owners b)) [
      | inl same ↦
          let gone = safe.owners.gone b last (ap is_freed_owner (sym same.0) ∙ none) in
          gone_published b last (gone.unclaimed Sealed) (or_parts (is_cancelled_in j.running b) false (or_parts (is_cancelled_in s.tx.deltas b) _ gone.uncancelled).1).0
      | inr freed ↦
          let neither = or_parts (is_claimed (roles Sealed b)) (is_cancelled_in j.running b)
          (false_from_ne_true (is_claimed (roles Sealed b) || is_cancelled_in j.running b) (λ is. not_next (ap freed_by (sym (safe.owners.freed_last b last is) ∙ freed.0)))) in
          gone_published b last neither.0 neither.1
    ]

    publishes : s.written ≡ s.tx.sectors → IsSafe g after (with_calls r (Flush ∷ [])) k
    publishes whole =
        let v = safe.versions in
        let o = safe.owners in
        let trims : trimmed_count j.roll ≤ length j.committed = trimmed_within g roles j j.roll safe.roll in
        let ok = sectors_after r Flush safe.sectors tt in
        let same : present_of (with_calls r (Flush ∷ [])) ≡ home = present_after r (Flush ∷ []) in
        let newest : HasHeader g home (header_after g k (trimmed_count j.roll)) =
        subst (HasHeader g home) (sym (same_header (trimmed_count j.roll) trims)) safe.present.header in
        let sum : sectors_of_txs (j.committed ++ s.tx ∷ []) ≡ sectors_of_txs j.committed + sectors_of_txs (s.tx ∷ []) = sum_by-append (λ (t : Tx). t.sectors) j.committed (s.tx ∷ []) in
        let image_published : IsSafeImage g after home k home =
        record {
          geometry = at_home.geometry;
          header = inr newest;
          ring = step_publish g j.oldest (ring_sector g home) j.committed [] s.tx (ring_opened g j.oldest (ring_sector g home) j.committed s safe.room.sealed at_home.ring)
              (subst (λ (n : ℕ). IsWrittenUpTo g j.oldest.epoch (ring_sector g home) n s.tx) whole safe.present.sealed.stands);
          whole = λ u logged. record { each = λ b n m role inside. refl };
          rest = rest_published;
        } in
        record {
          sectors = ok;
          each = λ image left.
              subst (λ (h : Image). IsSafeImage g after h k image) (sym same)
              (subst (λ (h : Image). IsSafeImage g after home k h) (sym (left_by_flush r image ok left)) image_published);
          present = subst (λ (h : Image). IsPresent g h k) (sym same) (record {
            header = newest;
            sealed = tt;
            rolled = if_some_also {P = IsRolledSoFar home j} {Q = IsRolledSoFar home k} (batch_of j.roll)
                (λ batch is so_far b m held left inside.
                so_far b m held left inside
                ∙ ap (λ (l : List Tx). replayed_byte home l (4096 * b + m)) (sym (take-append-le batch.count j.committed (s.tx ∷ []) (batch_is g roles j batch j.roll safe.roll is).committed)))
                safe.present.rolled;
          });
          versions = record {
            loggable = v.loggable;
            places = λ u b. v.places (moved_from Publishes u) b;
            sizes = λ u b n. v.sizes (moved_from Publishes u) b n;
            laid = λ u b laid. v.laid (moved_from Publishes u) b (ap (λ (l : List Tx). is_laid_by l b) (sym (same_txs u)) ∙ laid);
            covered = covered_published;
            cancelled = λ u b c. v.cancelled (moved_from Publishes u) b (later_cancels u b c);
            sealed = λ b. same_is_next (roles Sealed b);
            running = v.running;
            freed = λ b first none. absurd (true≢false (sym first ∙ none));
          };
          roll = roll_kept g roles after j k j.roll
              (λ batch of is. record {
                some = is.some;
                committed = omega (arith, is.committed, push);
                held = λ b. is.held b ∙ ap (λ (l : List Tx). is_laid_by l b) (sym (take-append-le batch.count j.committed (s.tx ∷ []) is.committed));
                left = is.left;
                cancelled = λ u b held c. is.cancelled (moved_from Publishes u) b held (ap (λ (l : List Tx). is_cancelled_by l b) (sym (same_after batch.count u is.committed)) ∙ c);
              }) safe.roll;
          owners = record {
            claimed = λ b claimed. ap (published_owner s.tx.tid) (o.claimed b claimed);
            gone = gone_after;
            in_hand = λ b last live. elim (owner_cases s.tx.tid (j.owners b)) [
              | inl same ↦ o.in_hand b last (sym same.0 ∙ live)
              | inr freed ↦ absurd (true≢false (ap is_released_owner (sym freed.1 ∙ live)))
            ];
            freed_last = λ b last is.
                let owner = o.freed_last b last is in
                elim (owner_cases s.tx.tid (j.owners b)) [
                  | inl same ↦ same.0 ∙ owner ∙ ap (λ (n : ℕ). Freed n) (sym next_tid)
                  | inr freed ↦ absurd (not_next (ap freed_by (sym owner ∙ freed.0)))
                ];
            freed_low = λ b tid is. elim (owner_cases s.tx.tid (j.owners b)) [
              | inl same ↦
                  let low = o.freed_low b tid (sym same.0 ∙ is) in
                  let other : tid ≡ s.tx.tid → ⊥ = λ equal. same.1 (sym same.0 ∙ is ∙ ap (λ (n : ℕ). Freed n) equal) in
                  omega (arith, low, other, number, push)
              | inr freed ↦ absurd (false≢true (ap is_freed_owner (sym freed.1 ∙ is)))
            ];
            freed_high = λ b tid is. elim (owner_cases s.tx.tid (j.owners b)) [
              | inl same ↦ let high = o.freed_high b tid (sym same.0 ∙ is) in omega (arith, high, next_tid)
              | inr freed ↦ absurd (false≢true (ap is_freed_owner (sym freed.1 ∙ is)))
            ];
          };
          room = record {
            oldest = safe.room.oldest;
            sealed = record { stand = tt; room = omega (arith, sum, safe.room.sealed.room); numbers = omega (arith, push, safe.room.sealed.numbers) };
            number = omega (arith, next_tid, safe.room.number);
            fits = λ some. omega (arith, sum, safe.room.fits some);
            unspent = safe.room.unspent;
          };
        }

pub keeps_publish : (g : Geometry) (roles : Roles) (r : Record) (j : Journal) (s : SealedTx) → IsSafe g roles r j → j.sealed ≡ Some s → s.written ≡ s.tx.sectors
    → IsSafe g (moved Publishes roles) (with_calls r (Flush ∷ [])) (with_published j s)
keeps_publish g roles r j s safe sealed whole =
    publishes g roles r j s (subst (λ (o : Option SealedTx). IsSafe g roles r (record j { sealed = o })) sealed safe) whole

-- the versions have the same transactions
pub published_txs : (g : Geometry) (roles : Roles) (r : Record) (j : Journal) (s : SealedTx) (v : Version) → j.sealed ≡ Some s → txs_of g (with_published j s) v ≡ txs_of g j (moved_from Publishes v)
published_txs g roles r j s v sealed =
    same_txs g roles r j s v ∙ ap (λ (o : Option SealedTx). txs_of g (record j { sealed = o }) (moved_from Publishes v)) (sym sealed)
