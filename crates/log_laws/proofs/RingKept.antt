-- How transactions stay in the ring: where other places change, and after trimmed ones.
use Rattle.std.proofs.Common.{◌≡◌, ℕ, ◌+◌, ◌%◌, ◌^◌, ◌<◌, ◌≤◌, inl, inr, true, List, [], ◌∷◌, ◌++◌, length, drop, get_or, refl, sym, ap, subst, ◌∙◌, arith, length-append}
use Rattle.std.specs.List.{All}
use Rattle.std.proofs.Math.Nat.{mod-add-mod, mod-lt}
use Rattle.std.proofs.lemmas.Bool.{and_parts, eqb-true}
use Rattle.std.proofs.lemmas.List.{drop_at, get_or_append_left}
use Rattle.std.proofs.lemmas.List.Elements.{All-nil, All-cons, All-head, All-tail, All-append, All-weaker, All-drop}
use Rattle.std.proofs.lemmas.List.FromFn.{length-map-range_with_len, get_or-map-range_with_len}
use Rattle.std.proofs.lemmas.List.Sums.{sum_by-cons, sum_by-append}
use Rattle.lufs_base.specs.Fields.{u32_at}
use Rattle.lufs_base.specs.Layout.{ring_of}
use Rattle.lufs_base.specs.declared.geometry.Geometry.{Geometry}
use Rattle.volume_model.specs.declared.log.Header.{Header}
use Rattle.volume_model.specs.declared.log.Tx.{Tx}
use Rattle.volume_model.specs.Format.{sector, sectors_of}
use Rattle.volume_model.specs.Log.{belongs_to, ring_from, tx_bytes}
use Rattle.log_laws.proofs.TxRead.{tx_trailers}
use Rattle.log_laws.specs.TxsInRing.{sectors_in_tx, sectors_in_txs, sectors_of_txs, StandsAt, StandFrom, IsWritten, trimmed}
use Rattle.log_laws.specs.StaleSectors.{IsStale, IsStaleAt}
use Rattle.log_laws.specs.LogRing.{BeginsWith, AreNext, IsWrittenOrStale}
use Rattle.log_laws.proofs.TxsListed.{tx_count_at}
use Rattle.log_laws.proofs.RingTurned.{sector_of_ring, written_at, place_of_sector}

-- a sector of a transaction's row
pub sector_in_tx : (g : Geometry) (head at tid epoch i : ℕ) (tx : Tx) → StandsAt g head at tid tx → i < tx.sectors → get_or (sectors_in_tx epoch tx) i [] ≡ sector (tx_bytes tx.deltas tx.tid epoch) i
sector_in_tx g head at tid epoch i tx stands below =
    let bytes : List ℕ = tx_bytes tx.deltas tx.tid epoch in
    let long : length (sectors_in_tx epoch tx) ≡ tx.sectors = tx_count_at g head at tid epoch tx stands in
    let count : length (sectors_in_tx epoch tx) ≡ sectors_of bytes = length-map-range_with_len (sector bytes) 0 (sectors_of bytes) in
    get_or-map-range_with_len (sector bytes) 0 (sectors_of bytes) i i [] (omega (arith, below, long, count)) (omega arith)

-- transactions stay written where their places stay
written_same : (g : Geometry) (head at tid epoch : ℕ) (before after : ℕ → List ℕ) (txs : List Tx) → StandFrom g head at tid txs
    → ((m : ℕ) → at ≤ m → m < at + sectors_of_txs txs → after ((head + m) % ring_of g) ≡ before ((head + m) % ring_of g))
    → All (IsWritten g epoch before) txs → All (IsWritten g epoch after) txs
written_same g head at tid epoch before after [] stand same written = All-nil (IsWritten g epoch after)
written_same g head at tid epoch before after (tx ∷ txs) stand same written =
    let sum : sectors_of_txs (tx ∷ txs) ≡ tx.sectors + sectors_of_txs txs = sum_by-cons (λ (t : Tx). t.sectors) tx txs in
    let here : IsWritten g epoch before tx = All-head (IsWritten g epoch before) tx txs written in
    All-cons (IsWritten g epoch after) tx txs
    (record {
      each = λ i below.
          let place = place_of_sector g head at tid i tx stand.0 in
          ap after place ∙ same (at + i) (omega arith) (omega (arith, below, sum)) ∙ ap before (sym place) ∙ here.each i below;
    })
    (written_same g head (at + tx.sectors) (tid + 1) epoch before after txs stand.1
    (λ m low high. same m (omega (arith, low)) (omega (arith, high, sum))) (All-tail (IsWritten g epoch before) tx txs written))

pub begins_same : (g : Geometry) (h : Header) (before after : ℕ → List ℕ) (txs : List Tx) → BeginsWith g h before txs
    → ((m : ℕ) → m < sectors_of_txs txs → after ((h.head + m) % ring_of g) ≡ before ((h.head + m) % ring_of g)) → BeginsWith g h after txs
begins_same g h before after txs is same =
    record {
      geometry = is.geometry;
      epoch = is.epoch;
      head = is.head;
      stand = is.stand;
      room = is.room;
      numbers = is.numbers;
      written = written_same g h.head 0 h.tid h.epoch before after txs is.stand (λ m low high. same m (omega (arith, high))) is.written;
    }

pub stale_same : (g : Geometry) (h : Header) (before after : ℕ → List ℕ) (m : ℕ) → (m < ring_of g → after ((h.head + m) % ring_of g) ≡ before ((h.head + m) % ring_of g))
    → IsStaleAt g h before m → IsStaleAt g h after m
stale_same g h before after m same stale inside = subst (λ (s : List ℕ). IsStale h.epoch h.tid s) (sym (same inside)) (stale inside)

-- what is written of transactions is of their epoch
pub belonging_ident : (epoch tid : ℕ) (s : List ℕ) → belongs_to epoch tid s ≡ true → u32_at s 508 ≡ epoch
belonging_ident epoch tid s is = eqb-true _ _ (and_parts _ _ is).1

pub written_idents : (g : Geometry) (head at tid epoch : ℕ) (txs : List Tx) → epoch < 2 ^ 32 → tid + length txs ≤ 2 ^ 32 → StandFrom g head at tid txs → All (λ s. u32_at s 508 ≡ epoch) (sectors_in_txs epoch txs)
written_idents g head at tid epoch [] epoch_low high stand = All-nil (λ (s : List ℕ). u32_at s 508 ≡ epoch)
written_idents g head at tid epoch (tx ∷ txs) epoch_low high stand =
    let number : tx.tid ≡ tid = stand.0.number in
    All-append (λ (s : List ℕ). u32_at s 508 ≡ epoch) (sectors_in_tx epoch tx) (sectors_in_txs epoch txs)
    (All-weaker (λ (s : List ℕ). belongs_to epoch tx.tid s ≡ true) (λ (s : List ℕ). u32_at s 508 ≡ epoch) (λ s is. belonging_ident epoch tx.tid s is) (sectors_in_tx epoch tx)
    (tx_trailers g tx.deltas tx.tid epoch stand.0.loggable (omega (arith, number, high)) epoch_low))
    (written_idents g head (at + tx.sectors) (tid + 1) epoch txs epoch_low (omega (arith, high)) stand.1)

-- transactions after others, counted from there
pub stand_after : (g : Geometry) (head at tid : ℕ) (front rest : List Tx) → StandFrom g head at tid (front ++ rest)
    → StandFrom g head at tid front × StandFrom g head (at + sectors_of_txs front) (tid + length front) rest
stand_after g head at tid [] rest stand =
    let place : at ≡ at + 0 = omega arith in
    let number : tid ≡ tid + 0 = omega arith in
    (tt, subst (λ (k : ℕ). StandFrom g head k (tid + 0) rest) place (subst (λ (k : ℕ). StandFrom g head at k rest) number stand))
stand_after g head at tid (tx ∷ front) rest stand =
    let sum : at + tx.sectors + sectors_of_txs front ≡ at + sectors_of_txs (tx ∷ front) = omega (arith, sum_by-cons (λ (t : Tx). t.sectors) tx front) in
    let number : tid + 1 + length front ≡ tid + length (tx ∷ front) = omega arith in
    let more = stand_after g head (at + tx.sectors) (tid + 1) front rest stand.1 in (
      (stand.0, more.0),
      subst (λ (k : ℕ). StandFrom g head k (tid + length (tx ∷ front)) rest) sum (subst (λ (k : ℕ). StandFrom g head (at + tx.sectors + sectors_of_txs front) k rest) number more.1),
    )

pub turned : (g : Geometry) (head c m : ℕ) → ((head + c) % ring_of g + m) % ring_of g ≡ (head + (c + m)) % ring_of g
turned g head c m = let sum : head + c + m ≡ head + (c + m) = omega arith in mod-add-mod (head + c) (ring_of g) m ∙ ap (λ (k : ℕ). k % ring_of g) sum

stand_turned : (g : Geometry) (head c at tid : ℕ) (txs : List Tx) → StandFrom g head (c + at) tid txs → StandFrom g ((head + c) % ring_of g) at tid txs
stand_turned g head c at tid [] stand = tt
stand_turned g head c at tid (tx ∷ txs) stand =
    let sum : c + at + tx.sectors ≡ c + (at + tx.sectors) = omega arith in (
      record {
        number = stand.0.number;
        first = stand.0.first ∙ sym (turned g head c at);
        size = stand.0.size;
        loggable = stand.0.loggable;
      },
      stand_turned g head c (at + tx.sectors) (tid + 1) txs (subst (λ (k : ℕ). StandFrom g head k (tid + 1) txs) sum stand.1),
    )

-- what is written of a transaction is stale for those after it
belonging_is_stale : (epoch tid low : ℕ) (s : List ℕ) → tid < low → belongs_to epoch tid s ≡ true → IsStale epoch low s
belonging_is_stale epoch tid low s below is =
    let named : u32_at s 504 ≡ tid = eqb-true _ _ (and_parts _ _ is).0 in
    record { older = λ same. omega (arith, named, below) }

pub stale_weaker : (epoch low high : ℕ) (s : List ℕ) → low ≤ high → IsStale epoch low s → IsStale epoch high s
stale_weaker epoch low high s from stale = record { older = λ same. let below : u32_at s 504 < low = stale.older same in omega (arith, below, from) }

written_is_stale : (g : Geometry) (head at tid epoch low : ℕ) (txs : List Tx) → epoch < 2 ^ 32 → low ≤ 2 ^ 32 → tid + length txs ≤ low → StandFrom g head at tid txs → All (IsStale epoch low) (sectors_in_txs epoch txs)
written_is_stale g head at tid epoch low [] epoch_low high within stand = All-nil (IsStale epoch low)
written_is_stale g head at tid epoch low (tx ∷ txs) epoch_low high within stand =
    let number : tx.tid ≡ tid = stand.0.number in
    let below : tx.tid < low = omega (arith, number, within) in
    All-append (IsStale epoch low) (sectors_in_tx epoch tx) (sectors_in_txs epoch txs)
    (All-weaker (λ (s : List ℕ). belongs_to epoch tx.tid s ≡ true) (IsStale epoch low) (λ s is. belonging_is_stale epoch tx.tid low s below is) (sectors_in_tx epoch tx)
    (tx_trailers g tx.deltas tx.tid epoch stand.0.loggable (omega (arith, below, high)) epoch_low))
    (written_is_stale g head (at + tx.sectors) (tid + 1) epoch low txs epoch_low high (omega (arith, within)) stand.1)

pub written_size : (g : Geometry) (head at tid epoch : ℕ) (txs : List Tx) → StandFrom g head at tid txs → length (sectors_in_txs epoch txs) ≡ sectors_of_txs txs
written_size g head at tid epoch [] stand = refl
written_size g head at tid epoch (tx ∷ txs) stand =
    omega (arith, length-append (sectors_in_tx epoch tx) (sectors_in_txs epoch txs), tx_count_at g head at tid epoch tx stand.0, written_size g head (at + tx.sectors) (tid + 1) epoch txs stand.1, sum_by-cons (λ (t : Tx). t.sectors) tx txs)

-- the sectors of transactions that are to be trimmed
pub front_stale : (g : Geometry) (h : Header) (at_place : ℕ → List ℕ) (txs : List Tx) (m : ℕ) → BeginsWith g h at_place txs → m < sectors_of_txs txs
    → IsStale h.epoch (h.tid + length txs) (at_place ((h.head + m) % ring_of g))
front_stale g h at_place txs m is below =
    let ring : List (List ℕ) = ring_from (ring_of g) h.head at_place in
    let rows : List (List ℕ) = sectors_in_txs h.epoch txs in
    let size : length rows ≡ sectors_of_txs txs = written_size g h.head 0 h.tid h.epoch txs is.stand in
    let inside : m < length rows = omega (arith, size, below) in
    let split : ring ≡ rows ++ drop (0 + sectors_of_txs txs) ring = written_at g h.head 0 h.tid h.epoch at_place txs is.stand (omega (arith, is.room)) is.written in
    let found : get_or rows m [] ≡ at_place ((h.head + m) % ring_of g) =
    sym (get_or_append_left rows (drop (0 + sectors_of_txs txs) ring) [] m inside)
    ∙ ap (λ (l : List (List ℕ)). get_or l m []) (sym split)
    ∙ sector_of_ring g h.head m at_place (omega (arith, below, is.room)) in
    subst (λ (s : List ℕ). IsStale h.epoch (h.tid + length txs) s) found
    (written_is_stale g h.head 0 h.tid h.epoch (h.tid + length txs) txs is.epoch is.numbers (omega arith) is.stand m [] inside)

-- the first of the transactions of a ring
pub begins_front : (g : Geometry) (h : Header) (at_place : ℕ → List ℕ) (front rest : List Tx) → BeginsWith g h at_place (front ++ rest) → BeginsWith g h at_place front
begins_front g h at_place front rest is =
    let sum : sectors_of_txs (front ++ rest) ≡ sectors_of_txs front + sectors_of_txs rest = sum_by-append (λ (t : Tx). t.sectors) front rest in
    let count : length (front ++ rest) ≡ length front + length rest = length-append front rest in
    record {
      geometry = is.geometry;
      epoch = is.epoch;
      head = is.head;
      stand = (stand_after g h.head 0 h.tid front rest is.stand).0;
      room = omega (arith, sum, is.room);
      numbers = omega (arith, count, is.numbers);
      written = λ k d below. subst (λ (t : Tx). IsWritten g h.epoch at_place t) (get_or_append_left front rest d k below) (is.written k d (omega (arith, below, count)));
    }

pub begins_trimmed : (g : Geometry) (h : Header) (at_place : ℕ → List ℕ) (front rest : List Tx) → BeginsWith g h at_place (front ++ rest) → BeginsWith g (trimmed g h front) at_place rest
begins_trimmed g h at_place front rest is =
    let c : ℕ = sectors_of_txs front in
    let low : ℕ = h.tid + length front in
    let sum : sectors_of_txs (front ++ rest) ≡ c + sectors_of_txs rest = sum_by-append (λ (t : Tx). t.sectors) front rest in
    let count : length (front ++ rest) ≡ length front + length rest = length-append front rest in
    let stands = stand_after g h.head 0 h.tid front rest is.stand in
    let start : 0 + c ≡ c + 0 = omega arith in
    let after_front : drop (length front) (front ++ rest) ≡ rest = drop_at front rest (length front) refl in
    record {
      geometry = is.geometry;
      epoch = is.epoch;
      head = mod-lt (h.head + c) (omega (arith, is.head));
      stand = stand_turned g h.head c 0 low rest (subst (λ (k : ℕ). StandFrom g h.head k low rest) start stands.1);
      room = omega (arith, sum, is.room);
      numbers = omega (arith, count, is.numbers);
      written = subst (λ (l : List Tx). All (IsWritten g h.epoch at_place) l) after_front (All-drop (IsWritten g h.epoch at_place) (length front) (front ++ rest) is.written);
    }

-- Transactions that are to follow are so after trimmed ones too.
pub next_trimmed : (g : Geometry) (h : Header) (front rest more : List Tx) → AreNext g h (front ++ rest) more → AreNext g (trimmed g h front) rest more
next_trimmed g h front rest more next =
    let c : ℕ = sectors_of_txs front in
    let low : ℕ = h.tid + length front in
    let sum : sectors_of_txs (front ++ rest) ≡ c + sectors_of_txs rest = sum_by-append (λ (t : Tx). t.sectors) front rest in
    let count : length (front ++ rest) ≡ length front + length rest = length-append front rest in
    let number : h.tid + length (front ++ rest) ≡ low + length rest = omega (arith, count) in
    let stand : StandFrom g h.head (c + sectors_of_txs rest) (low + length rest) more =
    subst (λ (k : ℕ). StandFrom g h.head k (low + length rest) more) sum (subst (λ (k : ℕ). StandFrom g h.head (sectors_of_txs (front ++ rest)) k more) number next.stand) in
    record {
      stand = stand_turned g h.head c (sectors_of_txs rest) (low + length rest) more stand;
      room = omega (arith, sum, next.room);
      numbers = omega (arith, number, next.numbers);
    }

pub each_trimmed : (g : Geometry) (h : Header) (at_place : ℕ → List ℕ) (front more : List Tx) → All (IsWrittenOrStale g h at_place) more → All (IsWrittenOrStale g (trimmed g h front) at_place) more
each_trimmed g h at_place front more each =
    All-weaker (IsWrittenOrStale g h at_place) (IsWrittenOrStale g (trimmed g h front) at_place)
    (λ tx maybe. record {
      each = λ i below. elim (maybe.each i below) [
        | inl here ↦ inl here
        | inr stale ↦ inr (stale_weaker h.epoch h.tid (h.tid + length front) _ (omega arith) stale)
      ];
    }) more each
