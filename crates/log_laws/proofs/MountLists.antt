-- A mount lists just the transactions that stand in the ring from the head on.
use Rattle.std.proofs.Common.{◌≡◌, ℕ, zero, suc, ◌+◌, ◌%◌, ◌-◌, ◌^◌, ◌<◌, ◌≤◌, ◌⊎◌, inl, inr, true, List, [], ◌∷◌, ◌++◌, length, take, drop, Some, Option, refl, sym, ap, subst, ◌∙◌, arith, append_assoc}
use Rattle.std.specs.List.{All}
use Rattle.std.proofs.lemmas.Bool.{cases_lt}
use Rattle.std.proofs.lemmas.List.{append-nil, length_push}
use Rattle.std.proofs.lemmas.List.Elements.{All-head, All-tail, All-push, All-take}
use Rattle.std.proofs.lemmas.List.Sums.{sum_by-cons, sum_by_push}
use Rattle.lufs_base.specs.Layout.{ring_of, header_sector}
use Rattle.lufs_base.specs.declared.geometry.Geometry.{Geometry}
use Rattle.volume_model.specs.declared.log.Header.{Header}
use Rattle.volume_model.specs.declared.log.Tx.{Tx}
use Rattle.volume_model.specs.Format.{Image, sector}
use Rattle.volume_model.specs.Log.{header_of, belongs_to, payload_of, Transactions, Listed, WithHeader, transactions_from, ring_from, log_after, log_with, log_of, Short, run_of, tx_bytes}
use Rattle.log_laws.proofs.TxRead.{tx_trailers}
use Rattle.log_laws.specs.TxsInRing.{sectors_in_tx, sectors_in_txs, sectors_of_txs, StandsAt, StandFrom, IsWritten, IsWrittenUpTo}
use Rattle.log_laws.specs.StaleSectors.{IsStale, IsStaleAt}
use Rattle.log_laws.specs.LogRing.{BeginsWith, AreNext, IsWrittenOrStale, ListsSome}
use Rattle.log_laws.specs.LogOnImage.{ring_sector}
use Rattle.log_laws.proofs.CutTx.{cut_tx}
use Rattle.log_laws.proofs.TxsListed.{with_txs, with_txs-none, some_sectors, all_listed, same_listing}
use Rattle.log_laws.proofs.RowListed.{EndsBefore, other_ends, short_ends, empty_is_short}
use Rattle.log_laws.proofs.RingTurned.{part_at, written_at, stale_ends, place_of_sector}

-- each transaction takes a sector
pub no_more_than_sectors : (g : Geometry) (head at tid : ℕ) (txs : List Tx) → StandFrom g head at tid txs → length txs ≤ sectors_of_txs txs
no_more_than_sectors g head at tid [] stand = omega arith
no_more_than_sectors g head at tid (tx ∷ txs) stand =
    omega (arith, sum_by-cons (λ (t : Tx). t.sectors) tx txs, some_sectors g head at tid tx stand.0, no_more_than_sectors g head (at + tx.sectors) (tid + 1) txs stand.1)

-- the listing of a ring, if it ends after the transactions
pub ring_listed : (g : Geometry) (h : Header) (at_place : ℕ → List ℕ) (txs : List Tx) → BeginsWith g h at_place txs
    → ((k : ℕ) → h.tid ≤ k → k + 1 ≡ h.tid + length txs → EndsBefore h.epoch k (drop (sectors_of_txs txs) (ring_from (ring_of g) h.head at_place)))
    → ((n : ℕ) → transactions_from g (ring_of g) h n (h.tid + length txs) (0 + sectors_of_txs txs) (drop (sectors_of_txs txs) (ring_from (ring_of g) h.head at_place)) ≡ Listed [])
    → transactions_from g (ring_of g) h (suc (ring_of g)) h.tid 0 (ring_from (ring_of g) h.head at_place) ≡ Listed txs
ring_listed g h at_place txs is last ends =
    let ring : List (List ℕ) = ring_from (ring_of g) h.head at_place in
    let rest : List (List ℕ) = drop (sectors_of_txs txs) ring in
    let few : length txs ≤ ring_of g = omega (arith, no_more_than_sectors g h.head 0 h.tid txs is.stand, is.room) in
    let more : ℕ = suc (ring_of g) - length txs in
    let fuel : suc (ring_of g) ≡ length txs + more = omega arith in
    let sum : 0 + sectors_of_txs txs ≡ sectors_of_txs txs = omega arith in
    let split : ring ≡ sectors_in_txs h.epoch txs ++ rest =
    written_at g h.head 0 h.tid h.epoch at_place txs is.stand (omega (arith, is.room)) is.written ∙ ap (λ (k : ℕ). sectors_in_txs h.epoch txs ++ drop k ring) sum in
    ap (λ (l : List (List ℕ)). transactions_from g (ring_of g) h (suc (ring_of g)) h.tid 0 l) split
    ∙ all_listed g h (suc (ring_of g)) more 0 h.tid txs rest is.geometry is.epoch is.numbers is.stand last fuel
    ∙ ap (λ (t : Transactions). with_txs txs t) (ends more)
    ∙ with_txs-none txs

-- A stale sector after them ends the listing.
pub ended_by_stale : (g : Geometry) (h : Header) (at_place : ℕ → List ℕ) (txs : List Tx) → BeginsWith g h at_place txs → IsStaleAt g h at_place (sectors_of_txs txs)
    → transactions_from g (ring_of g) h (suc (ring_of g)) h.tid 0 (ring_from (ring_of g) h.head at_place) ≡ Listed txs
ended_by_stale g h at_place txs is stale =
    let rest : List (List ℕ) = drop (sectors_of_txs txs) (ring_from (ring_of g) h.head at_place) in
    ring_listed g h at_place txs is
    (λ k from number. stale_ends g h (sectors_of_txs txs) k at_place stale from)
    (λ n. short_ends g h n (h.tid + length txs) (0 + sectors_of_txs txs) [] rest (λ k d below. absurd (omega (arith, below)))
    (stale_ends g h (sectors_of_txs txs) (h.tid + length txs) at_place stale (omega arith)) (empty_is_short g (h.tid + length txs)))

-- what ends a row also ends it after sectors of another transaction
ends_or_next : (epoch tid other : ℕ) (row rest : List (List ℕ)) → (tid ≡ other → ⊥) → All (λ s. belongs_to epoch other s ≡ true) row → EndsBefore epoch tid rest → EndsBefore epoch tid (row ++ rest)
ends_or_next epoch tid other [] rest differ all ends = ends
ends_or_next epoch tid other (s ∷ row) rest differ all ends = other_ends epoch tid other (s ∷ row) rest differ (omega arith) all

-- So does a front of a further transaction.
pub ended_by_front : (g : Geometry) (h : Header) (at_place : ℕ → List ℕ) (txs : List Tx) (tx : Tx) (j : ℕ) → BeginsWith g h at_place txs
    → StandsAt g h.head (sectors_of_txs txs) (h.tid + length txs) tx → tx.tid < 2 ^ 32 → sectors_of_txs txs + j ≤ ring_of g
    → j < tx.sectors → IsWrittenUpTo g h.epoch at_place j tx → IsStaleAt g h at_place (sectors_of_txs txs + j)
    → transactions_from g (ring_of g) h (suc (ring_of g)) h.tid 0 (ring_from (ring_of g) h.head at_place) ≡ Listed txs
ended_by_front g h at_place txs tx j is stands low room part written stale =
    let ring : List (List ℕ) = ring_from (ring_of g) h.head at_place in
    let at : ℕ = sectors_of_txs txs in
    let next : ℕ = h.tid + length txs in
    let row : List (List ℕ) = take j (sectors_in_tx h.epoch tx) in
    let rest : List (List ℕ) = drop (at + j) ring in
    let number : tx.tid ≡ next = stands.number in
    let split : drop at ring ≡ row ++ rest = part_at g h.head at next j h.epoch at_place tx stands (omega arith) room written in
    let all : All (λ s. belongs_to h.epoch tx.tid s ≡ true) row =
    All-take (λ (s : List ℕ). belongs_to h.epoch tx.tid s ≡ true) j (sectors_in_tx h.epoch tx) (tx_trailers g tx.deltas tx.tid h.epoch stands.loggable low is.epoch) in
    let short : run_of g tx.tid (payload_of row) ≡ Short = cut_tx g tx.deltas tx.tid h.epoch j is.geometry stands.loggable (omega (arith, stands.size, part)) in
    ring_listed g h at_place txs is
    (λ k from count. subst (λ (l : List (List ℕ)). EndsBefore h.epoch k l) (sym split)
    (ends_or_next h.epoch k tx.tid row rest (λ same. omega (arith, same, number, count)) all (stale_ends g h (at + j) k at_place stale from)))
    (λ n.
    same_listing g h n n next tx.tid (0 + at) (0 + at) (drop at ring) (row ++ rest) refl (sym number) refl split
    ∙ short_ends g h n tx.tid (0 + at) row rest all (stale_ends g h (at + j) tx.tid at_place stale (omega (arith, number))) short)

-- one more transaction after those that stand
pub stand_push : (g : Geometry) (head at tid : ℕ) (txs : List Tx) (tx : Tx) → StandFrom g head at tid txs → StandsAt g head (at + sectors_of_txs txs) (tid + length txs) tx
    → StandFrom g head at tid (txs ++ tx ∷ [])
stand_push g head at tid [] tx stand next =
    let no_sectors : at + 0 ≡ at = omega arith in
    let no_numbers : tid + 0 ≡ tid = omega arith in
    (subst (λ (k : ℕ). StandsAt g head k tid tx) no_sectors (subst (λ (k : ℕ). StandsAt g head (at + 0) k tx) no_numbers next), tt)
stand_push g head at tid (first ∷ txs) tx stand next =
    let sum : at + sectors_of_txs (first ∷ txs) ≡ at + first.sectors + sectors_of_txs txs = omega (arith, sum_by-cons (λ (t : Tx). t.sectors) first txs) in
    let number : tid + length (first ∷ txs) ≡ tid + 1 + length txs = omega arith in (
      stand.0,
      stand_push g head (at + first.sectors) (tid + 1) txs tx stand.1
          (subst (λ (k : ℕ). StandsAt g head k (tid + 1 + length txs) tx) sum (subst (λ (k : ℕ). StandsAt g head (at + sectors_of_txs (first ∷ txs)) k tx) number next)),
    )

pub begins_push : (g : Geometry) (h : Header) (at_place : ℕ → List ℕ) (txs : List Tx) (tx : Tx) → BeginsWith g h at_place txs
    → StandsAt g h.head (sectors_of_txs txs) (h.tid + length txs) tx → tx.tid < 2 ^ 32 → sectors_of_txs txs + tx.sectors ≤ ring_of g → IsWritten g h.epoch at_place tx
    → BeginsWith g h at_place (txs ++ tx ∷ [])
begins_push g h at_place txs tx is stands low room written =
    let sum : sectors_of_txs (txs ++ tx ∷ []) ≡ sectors_of_txs txs + tx.sectors = sum_by_push (λ (t : Tx). t.sectors) txs tx in
    let none : sectors_of_txs txs ≡ 0 + sectors_of_txs txs = omega arith in
    record {
      geometry = is.geometry;
      epoch = is.epoch;
      head = is.head;
      stand = stand_push g h.head 0 h.tid txs tx is.stand (subst (λ (k : ℕ). StandsAt g h.head k (h.tid + length txs) tx) none stands);
      room = omega (arith, sum, room);
      numbers = omega (arith, length_push txs tx, stands.number, low);
      written = All-push (IsWritten g h.epoch at_place) txs tx is.written written;
    }

-- the first index where the first of two facts fails
first_gap : (P Q : ℕ → Type 0) (n : ℕ) → ((i : ℕ) → i < n → P i ⊎ Q i) → ((i : ℕ) → i < n → P i) ⊎ ((j : ℕ) × (j < n) × ((i : ℕ) → i < j → P i) × Q j)
first_gap P Q zero each = inl (λ i below. absurd (omega (arith, below)))
first_gap P Q (suc n) each =
    elim (first_gap P Q n (λ i below. each i (omega (arith, below)))) [
      | inl all ↦ elim (each n (omega arith)) [
        | inl here ↦ inl (λ i below. elim (cases_lt i n) [
          | inl before ↦ all i before
          | inr last ↦ let same : n ≡ i = omega (arith, below, last) in subst P same here
        ])
        | inr gap ↦ inr (n, omega arith, all, gap)
      ]
      | inr found ↦ inr (found.0, omega (arith, found.1), found.2, found.3)
    ]

-- the transaction stands whole, or up to a stale sector
whole_or_cut : (g : Geometry) (h : Header) (at_place : ℕ → List ℕ) (tx : Tx) → IsWrittenOrStale g h at_place tx
    → IsWritten g h.epoch at_place tx ⊎ ((j : ℕ) × (j < tx.sectors) × IsWrittenUpTo g h.epoch at_place j tx × IsStale h.epoch h.tid (at_place ((tx.first + j) % ring_of g)))
whole_or_cut g h at_place tx maybe =
    elim (first_gap (λ i. at_place ((tx.first + i) % ring_of g) ≡ sector (tx_bytes tx.deltas tx.tid h.epoch) i) (λ i. IsStale h.epoch h.tid (at_place ((tx.first + i) % ring_of g))) tx.sectors maybe.each) [
      | inl all ↦ inl (record { each = all })
      | inr found ↦ inr (found.0, found.1, record { each = found.2 }, found.3)
    ]

-- Of further transactions those up to the first that isn't whole are listed.
pub after_crash : (g : Geometry) (h : Header) (at_place : ℕ → List ℕ) (txs more : List Tx) → BeginsWith g h at_place txs → AreNext g h txs more
    → All (IsWrittenOrStale g h at_place) more → IsStaleAt g h at_place (sectors_of_txs txs + sectors_of_txs more) → ListsSome g h at_place txs more
after_crash g h at_place txs [] is next each stale =
    let none : txs ++ [] ≡ txs = append-nil txs in
    let place : sectors_of_txs txs + 0 ≡ sectors_of_txs txs = omega arith in
    record {
      count = 0;
      within = omega arith;
      begins = subst (λ (l : List Tx). BeginsWith g h at_place l) (sym none) is;
      listed = ended_by_stale g h at_place txs is (subst (λ (k : ℕ). IsStaleAt g h at_place k) place stale) ∙ ap (λ (l : List Tx). Listed l) (sym none);
    }
after_crash g h at_place txs (tx ∷ more) is next each stale =
    let sum : sectors_of_txs (tx ∷ more) ≡ tx.sectors + sectors_of_txs more = sum_by-cons (λ (t : Tx). t.sectors) tx more in
    let stands : StandsAt g h.head (sectors_of_txs txs) (h.tid + length txs) tx = next.stand.0 in
    let low : tx.tid < 2 ^ 32 = omega (arith, stands.number, next.numbers) in
    elim (whole_or_cut g h at_place tx (All-head (IsWrittenOrStale g h at_place) tx more each)) [
      | inl written ↦
          let pushed : BeginsWith g h at_place (txs ++ tx ∷ []) = begins_push g h at_place txs tx is stands low (omega (arith, sum, next.room)) written in
          let count : length (txs ++ tx ∷ []) ≡ length txs + 1 = length_push txs tx in
          let place : sectors_of_txs (txs ++ tx ∷ []) ≡ sectors_of_txs txs + tx.sectors = sum_by_push (λ (t : Tx). t.sectors) txs tx in
          let number : h.tid + length txs + 1 ≡ h.tid + length (txs ++ tx ∷ []) = omega (arith, count) in
          let end : sectors_of_txs txs + sectors_of_txs (tx ∷ more) ≡ sectors_of_txs (txs ++ tx ∷ []) + sectors_of_txs more = omega (arith, sum, place) in
          let others : AreNext g h (txs ++ tx ∷ []) more = record {
            stand = subst (λ (k : ℕ). StandFrom g h.head k (h.tid + length (txs ++ tx ∷ [])) more) (sym place)
                (subst (λ (k : ℕ). StandFrom g h.head (sectors_of_txs txs + tx.sectors) k more) number next.stand.1);
            room = omega (arith, end, next.room);
            numbers = omega (arith, count, next.numbers);
          } in
          let lists = after_crash g h at_place (txs ++ tx ∷ []) more pushed others (All-tail (IsWrittenOrStale g h at_place) tx more each)
          (subst (λ (k : ℕ). IsStaleAt g h at_place k) end stale) in
          let joined : (txs ++ tx ∷ []) ++ take lists.count more ≡ txs ++ take (suc lists.count) (tx ∷ more) = append_assoc txs (tx ∷ []) (take lists.count more) in
          record {
            count = suc lists.count;
            within = omega (arith, lists.within);
            begins = subst (λ (l : List Tx). BeginsWith g h at_place l) joined lists.begins;
            listed = lists.listed ∙ ap (λ (l : List Tx). Listed l) joined;
          }
      | inr found ↦
          let j : ℕ = found.0 in
          let below : j < tx.sectors = found.1 in
          let place : (tx.first + j) % ring_of g ≡ (h.head + (sectors_of_txs txs + j)) % ring_of g = place_of_sector g h.head (sectors_of_txs txs) (h.tid + length txs) j tx stands in
          let none : txs ++ [] ≡ txs = append-nil txs in
          record {
            count = 0;
            within = omega arith;
            begins = subst (λ (l : List Tx). BeginsWith g h at_place l) (sym none) is;
            listed = ended_by_front g h at_place txs tx j is stands low (omega (arith, below, sum, next.room)) below found.2
                (λ inside. subst (λ (k : ℕ). IsStale h.epoch h.tid (at_place k)) place found.3) ∙ ap (λ (l : List Tx). Listed l) (sym none);
          }
    ]

-- the log of an image, by its header and its ring
pub log_listed : (g : Geometry) (h : Header) (image : Image) (txs : List Tx) → header_of g (sector image (header_sector g)) ≡ Some h
    → transactions_from g (ring_of g) h (suc (ring_of g)) h.tid 0 (ring_from (ring_of g) h.head (ring_sector g image)) ≡ Listed txs → log_of g image ≡ WithHeader h (Listed txs)
unfolding log_with
log_listed g h image txs header listed =
    ap (λ (o : Option Header). log_after g (ring_sector g image) o) header ∙ ap (λ (t : Transactions). WithHeader h t) listed
