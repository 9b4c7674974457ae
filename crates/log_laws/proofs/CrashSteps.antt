-- What was written to the ring since the last flush, and what a crash leaves of the log.
use Rattle.std.proofs.Common.{◌≡◌, ℕ, ◌+◌, ◌%◌, ◌<◌, ◌⊎◌, inl, inr, List, [], ◌++◌, length, get_or, take, drop, sym, ap, subst, ◌∙◌, arith}
use Rattle.std.specs.Prelude.{Contains}
use Rattle.std.proofs.Math.Nat.{mod-lt}
use Rattle.std.proofs.lemmas.Grind.{flat_map-append}
use Rattle.std.proofs.lemmas.List.{get_or_append_left, take-append-drop}
use Rattle.std.proofs.lemmas.List.Elements.{filter_map-append, Contains-append_cases, Contains-append_left}
use Rattle.std.proofs.lemmas.List.Sums.{sum_by-append}
use Rattle.lufs_base.specs.Layout.{ring_of, header_sector, ring_place}
use Rattle.lufs_base.specs.declared.geometry.Geometry.{Geometry}
use Rattle.volume_model.specs.declared.device_call.DeviceCall.{DeviceCall}
use Rattle.volume_model.specs.declared.log.Header.{Header}
use Rattle.volume_model.specs.declared.log.Tx.{Tx}
use Rattle.volume_model.specs.Crash.{Record, Outcome, kept_at, written_by, written_to, written_since}
use Rattle.volume_model.specs.Format.{Image, sector}
use Rattle.volume_model.specs.Log.{header_of, header_bytes, MayBeHeader}
use Rattle.log_laws.specs.TxsInRing.{sectors_in_tx, sectors_in_txs, sectors_of_txs, trimmed}
use Rattle.log_laws.specs.LogRing.{AreNext, IsLogRing, IsSectorOfNext}
use Rattle.log_laws.specs.LogOnImage.{ring_sector, HasLog, WritesNext}
use Rattle.log_laws.proofs.HeaderBytes.{header_reads}
use Rattle.log_laws.proofs.JournalSteps.{step_write, step_trim}
use Rattle.log_laws.proofs.RingKept.{written_size}

-- nothing was written to the ring
pub writes_none : (g : Geometry) (h : Header) (txs more : List Tx) (written : ℕ → List (List ℕ))
    → ((place : ℕ) (s : List ℕ) → place < ring_of g → Contains (written (ring_place g place)) s → ⊥) → WritesNext g h txs more written
writes_none g h txs more written none = λ m s below c. absurd (none ((h.head + m) % ring_of g) s (mod-lt (h.head + m) (omega (arith, below))) c)

-- both of two lists of calls
pub writes_both : (g : Geometry) (h : Header) (txs more : List Tx) (calls others : List DeviceCall) → WritesNext g h txs more (λ k. written_to k calls)
    → WritesNext g h txs more (λ k. written_to k others) → WritesNext g h txs more (λ k. written_to k (calls ++ others))
writes_both g h txs more calls others first second =
    λ m s below c.
    let k : ℕ = ring_place g ((h.head + m) % ring_of g) in
    elim (Contains-append_cases (written_to k calls) (written_to k others) s (subst (λ (l : List (List ℕ)). Contains l s) (filter_map-append (written_by k) calls others) c)) [
      | inl one ↦ first m s below one
      | inr two ↦ second m s below two
    ]

-- the first of them
pub writes_front : (g : Geometry) (h : Header) (txs more : List Tx) (calls : List DeviceCall) (n : ℕ) → WritesNext g h txs more (λ k. written_to k calls)
    → WritesNext g h txs more (λ k. written_to k (take n calls))
writes_front g h txs more calls n all =
    λ m s below c.
    let k : ℕ = ring_place g ((h.head + m) % ring_of g) in
    all m s below (subst (λ (l : List DeviceCall). Contains (written_to k l) s) (take-append-drop n calls)
    (subst (λ (l : List (List ℕ)). Contains l s) (sym (filter_map-append (written_by k) (take n calls) (drop n calls)))
    (Contains-append_left (written_to k (take n calls)) (written_to k (drop n calls)) s c)))

-- more transactions are to be written
pub writes_sealed : (g : Geometry) (h : Header) (txs more later : List Tx) (written : ℕ → List (List ℕ)) → AreNext g h txs more → WritesNext g h txs more written
    → WritesNext g h txs (more ++ later) written
writes_sealed g h txs more later written next all =
    λ m s below c.
    let found : IsSectorOfNext h txs more m s = all m s below c in
    let size : length (sectors_in_txs h.epoch more) ≡ sectors_of_txs more = written_size g h.head (sectors_of_txs txs) (h.tid + length txs) h.epoch more next.stand in
    record {
      index = found.index;
      below = omega (arith, found.below, sum_by-append (λ (t : Tx). t.sectors) more later);
      place = found.place;
      is =
          found.is
          ∙ sym (get_or_append_left (sectors_in_txs h.epoch more) (sectors_in_txs h.epoch later) [] found.index (omega (arith, found.below, size)))
          ∙ ap (λ (l : List (List ℕ)). get_or l found.index []) (sym (flat_map-append (sectors_in_tx h.epoch) more later));
    }

-- the ring that a crash leaves
ring_left : (g : Geometry) (h : Header) (r : Record) (n : ℕ) (image : Image) (txs more : List Tx) → IsLogRing g h (ring_sector g (kept_at r n)) txs more
    → WritesNext g h txs more (written_since r n) → Outcome r n image → IsLogRing g h (ring_sector g image) txs more
ring_left g h r n image txs more is writes outcome =
    step_write g h (ring_sector g (kept_at r n)) (ring_sector g image) txs more is (λ m below.
    elim (outcome.each (ring_place g ((h.head + m) % ring_of g))) [
      | inl same ↦ inl same
      | inr new ↦ inr (writes m (ring_sector g image ((h.head + m) % ring_of g)) below new)
    ])

pub crash_append : (g : Geometry) (h : Header) (r : Record) (n : ℕ) (image : Image) (txs more : List Tx) → HasLog g h (kept_at r n) txs more → WritesNext g h txs more (written_since r n)
    → ((s : List ℕ) → Contains (written_since r n (header_sector g)) s → ⊥) → Outcome r n image → HasLog g h image txs more
crash_append g h r n image txs more has writes none outcome =
    record {
      header = elim (outcome.each (header_sector g)) [
        | inl same ↦ ap (λ (s : List ℕ). header_of g s) same ∙ has.header
        | inr new ↦ absurd (none (sector image (header_sector g)) new)
      ];
      ring = ring_left g h r n image txs more has.ring writes outcome;
    }

pub crash_trim : (g : Geometry) (h : Header) (r : Record) (n : ℕ) (image : Image) (front rest more : List Tx) → HasLog g h (kept_at r n) (front ++ rest) more
    → WritesNext g h (front ++ rest) more (written_since r n) → MayBeHeader g (trimmed g h front)
    → ((s : List ℕ) → Contains (written_since r n (header_sector g)) s → s ≡ header_bytes (trimmed g h front))
    → Outcome r n image → HasLog g h image (front ++ rest) more ⊎ HasLog g (trimmed g h front) image rest more
crash_trim g h r n image front rest more has writes may new outcome =
    let ring = ring_left g h r n image (front ++ rest) more has.ring writes outcome in
    elim (outcome.each (header_sector g)) [
      | inl same ↦ inl (record { header = ap (λ (s : List ℕ). header_of g s) same ∙ has.header; ring = ring })
      | inr put ↦ inr (record {
        header = ap (λ (s : List ℕ). header_of g s) (new (sector image (header_sector g)) put) ∙ header_reads g (trimmed g h front) may;
        ring = step_trim g h (ring_sector g image) front rest more ring;
      })
    ]
