-- The log of an image under writes, done or cut by a crash.
use Rattle.std.proofs.Common.{◌≡◌, ℕ, ◌+◌, ◌*◌, ◌%◌, ◌<◌, ◌≤◌, ◌⊎◌, inl, inr, List, [], ◌∷◌, ◌++◌, length, take, drop, suc, Option, Some, None, refl, sym, ap, subst, ◌∙◌, arith, length-append}
use Rattle.std.specs.List.{All}
use Rattle.std.proofs.Math.Nat.{mod-lt}
use Rattle.std.proofs.lemmas.List.{take-append-drop, take_all, length-replicate, drop_at, ext_get_or}
use Rattle.std.proofs.lemmas.List.Elements.{All-drop}
use Rattle.std.proofs.lemmas.List.Sums.{sum_by-append}
use Rattle.lufs_base.specs.Layout.{IsGeometry, ring_of, header_sector, ring_place}
use Rattle.lufs_base.specs.declared.geometry.Geometry.{Geometry}
use Rattle.volume_model.specs.declared.log.Header.{Header}
use Rattle.volume_model.specs.declared.log.Tx.{Tx}
use Rattle.volume_model.specs.Crash.{IsPartlyWritten}
use Rattle.volume_model.specs.Format.{Image, sector, sectors_of, overwritten}
use Rattle.volume_model.specs.Log.{header_of, header_bytes, MayBeHeader, WithHeader, transactions_from, ring_from, log_after, log_with, log_of}
use Rattle.volume_model.specs.Sound.{HasNoLaterIdent}
use Rattle.volume_model.proofs.Sectors.{sector_before, sector_within, sector_behind}
use Rattle.log_laws.specs.TxsInRing.{sectors_of_txs, StandFrom, IsWritten, trimmed}
use Rattle.log_laws.specs.StaleSectors.{HasNoIdentAbove}
use Rattle.log_laws.specs.LogRing.{BeginsWith, IsWrittenOrStale, IsLogRing}
use Rattle.log_laws.specs.LogOnImage.{ring_sector, HasLog, MountsSome, HaveSameLog}
use Rattle.log_laws.proofs.HeaderBytes.{header_reads}
use Rattle.log_laws.proofs.JournalSteps.{step_lists, step_new, step_same, step_publish, step_trim}
use Rattle.log_laws.proofs.MountLists.{log_listed}
use Rattle.log_laws.proofs.RingKept.{stand_after}
use Rattle.log_laws.proofs.RingTurned.{ring_size, sector_of_ring}

-- the first of those that were being written are among those that stand written
moved_on : (g : Geometry) (h : Header) (at_place : ℕ → List ℕ) (txs front rest : List Tx) → IsLogRing g h at_place txs (front ++ rest) → BeginsWith g h at_place (txs ++ front)
    → IsLogRing g h at_place (txs ++ front) rest
moved_on g h at_place txs front rest is begins =
    let sum : sectors_of_txs (front ++ rest) ≡ sectors_of_txs front + sectors_of_txs rest = sum_by-append (λ (t : Tx). t.sectors) front rest in
    let joined : sectors_of_txs (txs ++ front) ≡ sectors_of_txs txs + sectors_of_txs front = sum_by-append (λ (t : Tx). t.sectors) txs front in
    let count : length (txs ++ front) ≡ length txs + length front = length-append txs front in
    let number : h.tid + length txs + length front ≡ h.tid + length (txs ++ front) = omega (arith, count) in
    let end : drop (length front) (front ++ rest) ≡ rest = drop_at front rest (length front) refl in
    let stands = (stand_after g h.head (sectors_of_txs txs) (h.tid + length txs) front rest is.next.stand).1 in
    record {
      begins = begins;
      next = record {
        stand = subst (λ (k : ℕ). StandFrom g h.head k (h.tid + length (txs ++ front)) rest) (sym joined)
            (subst (λ (k : ℕ). StandFrom g h.head (sectors_of_txs txs + sectors_of_txs front) k rest) number stands);
        room = omega (arith, sum, joined, is.next.room);
        numbers = omega (arith, count, length-append front rest, is.next.numbers);
      };
      each = subst (λ (l : List Tx). All (IsWrittenOrStale g h at_place) l) end (All-drop (IsWrittenOrStale g h at_place) (length front) (front ++ rest) is.each);
      rest = λ m from. is.rest m (omega (arith, from, sum, joined));
      idents = is.idents;
    }

pub mounts : (g : Geometry) (h : Header) (image : Image) (txs more : List Tx) → HasLog g h image txs more → MountsSome g h image txs more
mounts g h image txs more has =
    let lists = step_lists g h (ring_sector g image) txs more has.ring in
    let split : more ≡ take lists.count more ++ drop lists.count more = sym (take-append-drop lists.count more) in
    record {
      count = lists.count;
      within = lists.within;
      log = record {
        header = has.header;
        ring = moved_on g h (ring_sector g image) txs (take lists.count more) (drop lists.count more)
            (subst (λ (l : List Tx). IsLogRing g h (ring_sector g image) txs l) split has.ring) lists.begins;
      };
      listed = log_listed g h image (txs ++ take lists.count more) has.header lists.listed;
    }

pub no_later_ident : (g : Geometry) (h : Header) (image : Image) (txs more : List Tx) → HasLog g h image txs more → HasNoLaterIdent g image
no_later_ident g h image txs more has = record { header = h; reads = has.header; idents = has.ring.idents }

pub log_same : (g : Geometry) (h : Header) (before after : Image) (txs more : List Tx) → HaveSameLog g before after → HasLog g h before txs more → HasLog g h after txs more
log_same g h before after txs more same has =
    record {
      header = ap (λ (s : List ℕ). header_of g s) same.header ∙ has.header;
      ring = step_same g h (ring_sector g before) (ring_sector g after) txs more same.ring has.ring;
    }

-- a write beside the log leaves it
pub written_beside : (g : Geometry) (first : ℕ) (bytes : List ℕ) (old new : Image) → length bytes % 512 ≡ 0 → 512 * first + length bytes ≤ length old
    → (first + sectors_of bytes ≤ header_sector g) ⊎ (ring_place g (ring_of g) ≤ first) → IsPartlyWritten first bytes old new → HaveSameLog g old new
written_beside g first bytes old new whole fits beside partly =
    let kept : (k : ℕ) → header_sector g ≤ k → k < ring_place g (ring_of g) → sector new k ≡ sector old k =
    λ k low high. elim (partly.each k) [
      | inl same ↦ same
      | inr put ↦ elim beside [
        | inl before ↦ put ∙ sector_behind old first bytes k fits (omega (arith, before, low, whole))
        | inr after ↦ put ∙ sector_before old first bytes k fits (omega (arith, after, high))
      ]
    ] in
    record {
      header = kept (header_sector g) (omega arith) (omega arith);
      ring = λ place below. kept (ring_place g place) (omega arith) (omega (arith, below));
    }

-- a header is one sector
header_size : (h : Header) → length (header_bytes h) ≡ 512
unfolding header_bytes
header_size h = omega (arith, length-replicate {A = ℕ} 496 0)

-- what a header that is written leaves of the header sector and of the ring
header_over : (g : Geometry) (h : Header) (base : Image) → 512 * (header_sector g + 1) ≤ length base → sector (overwritten base (header_sector g) (header_bytes h)) (header_sector g) ≡ header_bytes h
header_over g h base big =
    let size = header_size h in
    sector_within base (header_sector g) (header_bytes h) (header_sector g) 0 (omega (arith, size, big)) refl (omega (arith, size)) ∙ take_all 512 (header_bytes h) (omega (arith, size))

pub ring_beside : (g : Geometry) (h : Header) (base new : Image) (place : ℕ) → 512 * (header_sector g + 1) ≤ length base → IsPartlyWritten (header_sector g) (header_bytes h) base new
    → ring_sector g new place ≡ ring_sector g base place
ring_beside g h base new place big partly =
    let size = header_size h in
    elim (partly.each (ring_place g place)) [
      | inl same ↦ same
      | inr put ↦ put ∙ sector_behind base (header_sector g) (header_bytes h) (ring_place g place) (omega (arith, size, big)) (omega (arith, size))
    ]

pub header_cut : (g : Geometry) (h : Header) (old new : Image) → 512 * (header_sector g + 1) ≤ length old → MayBeHeader g h → IsPartlyWritten (header_sector g) (header_bytes h) old new
    → (sector new (header_sector g) ≡ sector old (header_sector g)) ⊎ (header_of g (sector new (header_sector g)) ≡ Some h)
header_cut g h old new big may partly =
    elim (partly.each (header_sector g)) [
      | inl same ↦ inl same
      | inr put ↦ inr (ap (λ (s : List ℕ). header_of g s) (put ∙ header_over g h old big) ∙ header_reads g h may)
    ]

-- A header that is being written: the log is the old one, or the new header with the same ring.
with_header : (g : Geometry) (h : Header) (old new : Image) (txs more : List Tx) → 512 * (header_sector g + 1) ≤ length old → MayBeHeader g h
    → IsLogRing g h (ring_sector g old) txs more → IsPartlyWritten (header_sector g) (header_bytes h) old new → HaveSameLog g old new ⊎ HasLog g h new txs more
with_header g h old new txs more big may ring partly =
    let kept : (place : ℕ) → place < ring_of g → ring_sector g new place ≡ ring_sector g old place = λ place below. ring_beside g h old new place big partly in
    elim (header_cut g h old new big may partly) [
      | inl same ↦ inl (record { header = same; ring = kept })
      | inr put ↦ inr (record { header = put; ring = step_same g h (ring_sector g old) (ring_sector g new) txs more kept ring })
    ]

pub trim_written : (g : Geometry) (h : Header) (old new : Image) (front rest more : List Tx) → HasLog g h old (front ++ rest) more → 512 * (header_sector g + 1) ≤ length old
    → MayBeHeader g (trimmed g h front) → IsPartlyWritten (header_sector g) (header_bytes (trimmed g h front)) old new
    → HasLog g h new (front ++ rest) more ⊎ HasLog g (trimmed g h front) new rest more
trim_written g h old new front rest more has big may partly =
    elim (with_header g (trimmed g h front) old new rest more big may (step_trim g h (ring_sector g old) front rest more has.ring) partly) [
      | inl same ↦ inl (log_same g h old new (front ++ rest) more same has)
      | inr put ↦ inr put
    ]

pub epoch_written : (g : Geometry) (h : Header) (epoch : ℕ) (old new : Image) → IsGeometry g → 512 * (header_sector g + 1) ≤ length old → MayBeHeader g h
    → HasNoIdentAbove g epoch (ring_sector g old) → epoch < h.epoch → IsPartlyWritten (header_sector g) (header_bytes h) old new → HaveSameLog g old new ⊎ HasLog g h new [] []
epoch_written g h epoch old new is big may none later partly =
    with_header g h old new [] [] big may
    (step_new g h (ring_sector g old) is may.epoch_high may.head_low (omega (arith, may.tid_high)) (λ place below. omega (arith, none place below, later))) partly

-- a header that is written
header_done : (g : Geometry) (h : Header) (base : Image) (txs more : List Tx) → 512 * (header_sector g + 1) ≤ length base → MayBeHeader g h
    → IsLogRing g h (ring_sector g base) txs more → HasLog g h (overwritten base (header_sector g) (header_bytes h)) txs more
header_done g h base txs more big may ring =
    let size = header_size h in
    let new : Image = overwritten base (header_sector g) (header_bytes h) in
    record {
      header = ap (λ (s : List ℕ). header_of g s) (header_over g h base big) ∙ header_reads g h may;
      ring = step_same g h (ring_sector g base) (ring_sector g new) txs more
          (λ place below. sector_behind base (header_sector g) (header_bytes h) (ring_place g place) (omega (arith, size, big)) (omega (arith, size))) ring;
    }

pub trim_done : (g : Geometry) (h : Header) (base : Image) (front rest more : List Tx) → HasLog g h base (front ++ rest) more → 512 * (header_sector g + 1) ≤ length base
    → MayBeHeader g (trimmed g h front) → HasLog g (trimmed g h front) (overwritten base (header_sector g) (header_bytes (trimmed g h front))) rest more
trim_done g h base front rest more has big may = header_done g (trimmed g h front) base rest more big may (step_trim g h (ring_sector g base) front rest more has.ring)

pub epoch_done : (g : Geometry) (h : Header) (epoch : ℕ) (base : Image) → IsGeometry g → 512 * (header_sector g + 1) ≤ length base → MayBeHeader g h
    → HasNoIdentAbove g epoch (ring_sector g base) → epoch < h.epoch → HasLog g h (overwritten base (header_sector g) (header_bytes h)) [] []
epoch_done g h epoch base is big may none later =
    header_done g h base [] [] big may
    (step_new g h (ring_sector g base) is may.epoch_high may.head_low (omega (arith, may.tid_high)) (λ place below. omega (arith, none place below, later)))

-- the first of the transactions that were being written
pub tx_whole : (g : Geometry) (h : Header) (image : Image) (txs more : List Tx) (tx : Tx) → HasLog g h image txs (tx ∷ more) → IsWritten g h.epoch (ring_sector g image) tx
    → HasLog g h image (txs ++ tx ∷ []) more
tx_whole g h image txs more tx has written = record { header = has.header; ring = step_publish g h (ring_sector g image) txs more tx has.ring written }

-- the log of images that have the same one
same_ring : (g : Geometry) (head : ℕ) (before after : ℕ → List ℕ) → ((place : ℕ) → place < ring_of g → after place ≡ before place)
    → ring_from (ring_of g) head after ≡ ring_from (ring_of g) head before
same_ring g head before after same =
    ext_get_or [] (ring_from (ring_of g) head after) (ring_from (ring_of g) head before) (ring_size g head after ∙ sym (ring_size g head before))
    (λ i below.
    let inside : i < ring_of g = omega (arith, below, ring_size g head after) in
    sector_of_ring g head i after inside ∙ same ((head + i) % ring_of g) (mod-lt (head + i) (omega (arith, inside))) ∙ sym (sector_of_ring g head i before inside))

same_after : (g : Geometry) (before after : ℕ → List ℕ) (header : Option Header) → ((place : ℕ) → place < ring_of g → after place ≡ before place)
    → log_after g after header ≡ log_after g before header
same_after g before after None same = refl
same_after g before after (Some h) same =
    ap (λ (l : List (List ℕ)). WithHeader h (transactions_from g (ring_of g) h (suc (ring_of g)) h.tid 0 l)) (same_ring g h.head before after same)

pub same_log_of : (g : Geometry) (before after : Image) → HaveSameLog g before after → log_of g after ≡ log_of g before
unfolding log_with
same_log_of g before after same =
    ap (λ (s : List ℕ). log_after g (ring_sector g after) (header_of g s)) same.header
    ∙ same_after g (ring_sector g before) (ring_sector g after) (header_of g (sector before (header_sector g))) same.ring
