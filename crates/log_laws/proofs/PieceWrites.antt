-- The write of some sectors of a transaction, and what it puts where.
use Rattle.std.proofs.Common.{◌≡◌, ℕ, ◌+◌, ◌-◌, ◌*◌, ◌%◌, ◌<◌, ◌≤◌, ◌⊎◌, inl, inr, leb, ltb, cond, Bool, true, false, ◌&&◌, List, [], ◌∷◌, ◌++◌, length, take, drop, get_or, Some, None, refl, sym, ap, subst, ◌∙◌, arith, length-take, length-drop}
use Rattle.std.specs.Prelude.{Contains}
use Rattle.std.specs.List.{cons_option}
use Rattle.std.proofs.Math.Nat.{mod-eq_of_lt, add-mod_right, mod-add-mod, mod-lt}
use Rattle.std.proofs.lemmas.Bool.{cases_lt, and_parts, leb-true, ltb-true}
use Rattle.std.proofs.lemmas.Grind.{flat_map-append}
use Rattle.std.proofs.lemmas.List.{get_or_append_left, get_or-append-add, drop-drop, drop-take, take-take}
use Rattle.std.proofs.lemmas.List.Elements.{Contains-push_cases}
use Rattle.std.proofs.lemmas.List.Sums.{sum_by-cons, sum_by-append}
use Rattle.lufs_base.specs.Layout.{ring_of, header_sector, ring_place}
use Rattle.lufs_base.specs.declared.geometry.Geometry.{Geometry}
use Rattle.volume_model.specs.declared.device_call.DeviceCall.TheVariants.{Write}
use Rattle.volume_model.specs.declared.log.Header.{Header}
use Rattle.volume_model.specs.declared.log.Tx.{Tx}
use Rattle.volume_model.specs.Crash.{IsPartlyWritten, image_after, written_to}
use Rattle.volume_model.specs.Format.{Image, sector, sectors_of, sectors_from}
use Rattle.volume_model.specs.Log.{header_of, tx_bytes}
use Rattle.volume_model.proofs.Sectors.{sector_before, sector_within, sector_behind}
use Rattle.log_laws.specs.TxsInRing.{sectors_in_tx, sectors_in_txs, sectors_of_txs, StandsAt, IsWrittenUpTo}
use Rattle.log_laws.specs.LogRing.{AreNext, IsLogRing, IsSectorOfNext}
use Rattle.log_laws.specs.LogOnImage.{ring_sector, HasLog, WritesNext, tx_write, IsInOneTurn}
use Rattle.log_laws.proofs.JournalSteps.{step_write}
use Rattle.log_laws.proofs.RingKept.{sector_in_tx, stand_after, written_size}
use Rattle.log_laws.proofs.RingTurned.{place_of_sector}
use Rattle.log_laws.proofs.TxRead.{tx_size}
use Rattle.log_laws.proofs.TxsListed.{tx_count_at}

-- places of the ring that are the same are as far after the head
one_turn : (r head m : ℕ) → head < r → m < r → ((head + m) % r ≡ head + m) ⊎ ((head + m) % r + r ≡ head + m)
one_turn r head m inside below =
    elim (cases_lt (head + m) r) [
      | inl early ↦ inl (mod-eq_of_lt early)
      | inr late ↦
          let sum : head + m ≡ (head + m - r) + r = omega arith in
          let there : (head + m) % r ≡ head + m - r = ap (λ (k : ℕ). k % r) sum ∙ add-mod_right (head + m - r) r ∙ mod-eq_of_lt (omega arith) in
          inr (omega (arith, there))
    ]

same_place : (r head m n : ℕ) → head < r → m < r → n < r → (head + m) % r ≡ (head + n) % r → m ≡ n
same_place r head m n inside below_m below_n same =
    elim (one_turn r head m inside below_m) [
      | inl m_early ↦ elim (one_turn r head n inside below_n) [
        | inl n_early ↦ omega (arith, m_early, n_early, same)
        | inr n_late ↦ omega (arith, m_early, n_late, same, below_m, below_n)
      ]
      | inr m_late ↦ elim (one_turn r head n inside below_n) [
        | inl n_early ↦ omega (arith, m_late, n_early, same, below_m, below_n)
        | inr n_late ↦ omega (arith, m_late, n_late, same)
      ]
    ]

-- a sector of a part of bytes
sector_of_part : (bytes : List ℕ) (i n a : ℕ) → a < n → sector (sectors_from bytes i n) a ≡ sector bytes (i + a)
sector_of_part bytes i n a below =
    let rest : 512 * n ≡ 512 * a + (512 * n - 512 * a) = omega arith in
    let place : 512 * i + 512 * a ≡ 512 * (i + a) = omega arith in
    ap (λ (m : ℕ). take 512 (drop (512 * a) (take m (drop (512 * i) bytes)))) rest
    ∙ ap (λ (l : List ℕ). take 512 l) (drop-take (512 * a) (512 * n - 512 * a) (drop (512 * i) bytes))
    ∙ take-take 512 (512 * n - 512 * a) (drop (512 * a) (drop (512 * i) bytes)) (omega arith)
    ∙ ap (λ (l : List ℕ). take 512 l) (drop-drop (512 * a) (512 * i) bytes)
    ∙ ap (λ (m : ℕ). take 512 (drop m bytes)) place

-- the bytes of a piece are its sectors
piece_size : (g : Geometry) (head at tid epoch i n : ℕ) (tx : Tx) → StandsAt g head at tid tx → i + n ≤ tx.sectors
    → length (sectors_from (tx_bytes tx.deltas tx.tid epoch) i n) ≡ 512 * n
piece_size g head at tid epoch i n tx stands within =
    let bytes : List ℕ = tx_bytes tx.deltas tx.tid epoch in
    omega (arith, tx_size g tx.deltas tx.tid epoch stands.loggable, stands.size, within, length-take (512 * n) (drop (512 * i) bytes), length-drop (512 * i) bytes)

-- a transaction among those that are to follow
among : (g : Geometry) (h : Header) (txs front back : List Tx) (tx : Tx) → AreNext g h txs (front ++ tx ∷ back)
    → StandsAt g h.head (sectors_of_txs txs + sectors_of_txs front) (h.tid + length txs + length front) tx
among g h txs front back tx next = (stand_after g h.head (sectors_of_txs txs) (h.tid + length txs) front (tx ∷ back) next.stand).1.0

among_room : (g : Geometry) (h : Header) (txs front back : List Tx) (tx : Tx) → AreNext g h txs (front ++ tx ∷ back)
    → sectors_of_txs txs + sectors_of_txs front + tx.sectors ≤ ring_of g
among_room g h txs front back tx next =
    omega (arith, next.room, sum_by-append (λ (t : Tx). t.sectors) front (tx ∷ back), sum_by-cons (λ (t : Tx). t.sectors) tx back)

-- a sector of it
sector_of_next : (g : Geometry) (h : Header) (txs front back : List Tx) (tx : Tx) (j : ℕ) → AreNext g h txs (front ++ tx ∷ back) → j < tx.sectors
    → IsSectorOfNext h txs (front ++ tx ∷ back) (sectors_of_txs txs + (sectors_of_txs front + j)) (sector (tx_bytes tx.deltas tx.tid h.epoch) j)
sector_of_next g h txs front back tx j next below =
    let at : ℕ = sectors_of_txs txs + sectors_of_txs front in
    let tid : ℕ = h.tid + length txs + length front in
    let stands = among g h txs front back tx next in
    let before : List (List ℕ) = sectors_in_txs h.epoch front in
    let here : List (List ℕ) = sectors_in_tx h.epoch tx in
    let later : List (List ℕ) = sectors_in_txs h.epoch back in
    let sum : sectors_of_txs (front ++ tx ∷ back) ≡ sectors_of_txs front + sectors_of_txs (tx ∷ back) = sum_by-append (λ (t : Tx). t.sectors) front (tx ∷ back) in
    let first : sectors_of_txs (tx ∷ back) ≡ tx.sectors + sectors_of_txs back = sum_by-cons (λ (t : Tx). t.sectors) tx back in
    let size : length before ≡ sectors_of_txs front =
    written_size g h.head (sectors_of_txs txs) (h.tid + length txs) h.epoch front (stand_after g h.head (sectors_of_txs txs) (h.tid + length txs) front (tx ∷ back) next.stand).0 in
    let place : length before + j ≡ sectors_of_txs front + j = omega (arith, size) in
    record {
      index = sectors_of_txs front + j;
      below = omega (arith, sum, first, below);
      place = refl;
      is =
          sym (sector_in_tx g h.head at tid h.epoch j tx stands below)
          ∙ sym (get_or_append_left here later [] j (omega (arith, below, tx_count_at g h.head at tid h.epoch tx stands)))
          ∙ sym (get_or-append-add before (here ++ later) j [])
          ∙ ap (λ (k : ℕ). get_or (before ++ (here ++ later)) k []) place
          ∙ ap (λ (l : List (List ℕ)). get_or l (sectors_of_txs front + j) []) (sym (flat_map-append (sectors_in_tx h.epoch) front (tx ∷ back)));
    }

-- the places of a piece are those of its sectors
piece_place : (g : Geometry) (tx : Tx) (i n a : ℕ) → IsInOneTurn g tx i n → a < n → (tx.first + (i + a)) % ring_of g ≡ (tx.first + i) % ring_of g + a
piece_place g tx i n a turn below =
    let sum : tx.first + i + a ≡ tx.first + (i + a) = omega arith in
    let inside : (tx.first + i) % ring_of g + a < ring_of g = omega (arith, below, turn.places) in
    sym (ap (λ (k : ℕ). k % ring_of g) sum) ∙ sym (mod-add-mod (tx.first + i) (ring_of g) a) ∙ mod-eq_of_lt inside

-- what it puts at a place of the ring is to stand there
pub piece_sector : (g : Geometry) (h : Header) (txs front back : List Tx) (tx : Tx) (i n a m : ℕ) → AreNext g h txs (front ++ tx ∷ back) → h.head < ring_of g → IsInOneTurn g tx i n → a < n → m < ring_of g
    → (tx.first + i) % ring_of g + a ≡ (h.head + m) % ring_of g
    → IsSectorOfNext h txs (front ++ tx ∷ back) m (sector (sectors_from (tx_bytes tx.deltas tx.tid h.epoch) i n) a)
piece_sector g h txs front back tx i n a m next head turn below inside lies =
    let bytes : List ℕ = tx_bytes tx.deltas tx.tid h.epoch in
    let at : ℕ = sectors_of_txs txs + sectors_of_txs front in
    let in_tx : i + a < tx.sectors = omega (arith, below, turn.sectors) in
    let room = among_room g h txs front back tx next in
    let place : (h.head + (at + (i + a))) % ring_of g ≡ (h.head + m) % ring_of g =
    sym (place_of_sector g h.head at (h.tid + length txs + length front) (i + a) tx (among g h txs front back tx next)) ∙ piece_place g tx i n a turn below ∙ lies in
    let index : at + (i + a) ≡ m = same_place (ring_of g) h.head (at + (i + a)) m head (omega (arith, in_tx, room)) inside place in
    let same : sectors_of_txs txs + (sectors_of_txs front + (i + a)) ≡ m = omega (arith, index) in
    subst (λ (s : List ℕ). IsSectorOfNext h txs (front ++ tx ∷ back) m s) (sym (sector_of_part bytes i n a below))
    (subst (λ (k : ℕ). IsSectorOfNext h txs (front ++ tx ∷ back) k (sector bytes (i + a))) same (sector_of_next g h txs front back tx (i + a) next in_tx))

-- what one write puts into a sector
record Put (first : ℕ) (bytes : List ℕ) (k : ℕ) (s : List ℕ) : Type 0 where
  at : ℕ
  place : first + at ≡ k
  inside : at < sectors_of bytes
  is : s ≡ sector bytes at

by_test : (first : ℕ) (bytes : List ℕ) (k : ℕ) (s : List ℕ) (test : Bool) → (leb first k && ltb k (first + sectors_of bytes)) ≡ test
    → Contains (cons_option (cond test (Some (sector bytes (k - first))) None) []) s → Put first bytes k s
by_test first bytes k s true is c =
    let parts = and_parts (leb first k) (ltb k (first + sectors_of bytes)) is in
    let low = leb-true first k parts.0 in
    let high = ltb-true k (first + sectors_of bytes) parts.1 in
    elim (Contains-push_cases [] (sector bytes (k - first)) s c) [
      | inl none ↦ absurd (omega (arith, none.1))
      | inr same ↦ record { at = k - first; place = omega (arith, low); inside = omega (arith, low, high); is = sym same }
    ]
by_test first bytes k s false is c = absurd (omega (arith, c.1))

one_put : (first : ℕ) (bytes : List ℕ) (k : ℕ) (s : List ℕ) → Contains (written_to k (Write first bytes ∷ [])) s → Put first bytes k s
one_put first bytes k s c = by_test first bytes k s (leb first k && ltb k (first + sectors_of bytes)) refl c

pub piece_next : (g : Geometry) (h : Header) (txs front back : List Tx) (tx : Tx) (i n : ℕ) → AreNext g h txs (front ++ tx ∷ back) → h.head < ring_of g → IsInOneTurn g tx i n
    → WritesNext g h txs (front ++ tx ∷ back) (λ k. written_to k (tx_write g h.epoch tx i n ∷ []))
piece_next g h txs front back tx i n next head turn =
    λ m s below c.
    let piece : List ℕ = sectors_from (tx_bytes tx.deltas tx.tid h.epoch) i n in
    let put = one_put (ring_place g ((tx.first + i) % ring_of g)) piece (ring_place g ((h.head + m) % ring_of g)) s c in
    let size = piece_size g h.head (sectors_of_txs txs + sectors_of_txs front) (h.tid + length txs + length front) h.epoch i n tx (among g h txs front back tx next) turn.sectors in
    subst (λ (l : List ℕ). IsSectorOfNext h txs (front ++ tx ∷ back) m l) (sym put.is)
    (piece_sector g h txs front back tx i n put.at m next head turn (omega (arith, put.inside, size)) below (omega (arith, put.place)))

-- what a piece leaves that is written, or in part
record Piece (g : Geometry) (h : Header) (old : Image) (txs front back : List Tx) (tx : Tx) (i n : ℕ) : Type 0 where
  size : length (sectors_from (tx_bytes tx.deltas tx.tid h.epoch) i n) ≡ 512 * n
  fits : 512 * ring_place g ((tx.first + i) % ring_of g) + length (sectors_from (tx_bytes tx.deltas tx.tid h.epoch) i n) ≤ length old

piece_of : (g : Geometry) (h : Header) (old : Image) (txs front back : List Tx) (tx : Tx) (i n : ℕ) → AreNext g h txs (front ++ tx ∷ back)
    → 512 * ring_place g (ring_of g) ≤ length old → IsInOneTurn g tx i n → Piece g h old txs front back tx i n
piece_of g h old txs front back tx i n next big turn =
    let size = piece_size g h.head (sectors_of_txs txs + sectors_of_txs front) (h.tid + length txs + length front) h.epoch i n tx (among g h txs front back tx next) turn.sectors in
    record { size = size; fits = omega (arith, size, turn.places, big) }

pub piece_header : (g : Geometry) (h : Header) (old new : Image) (txs front back : List Tx) (tx : Tx) (i n : ℕ) → AreNext g h txs (front ++ tx ∷ back)
    → 512 * ring_place g (ring_of g) ≤ length old → IsInOneTurn g tx i n
    → IsPartlyWritten (ring_place g ((tx.first + i) % ring_of g)) (sectors_from (tx_bytes tx.deltas tx.tid h.epoch) i n) old new
    → sector new (header_sector g) ≡ sector old (header_sector g)
piece_header g h old new txs front back tx i n next big turn partly =
    let piece : List ℕ = sectors_from (tx_bytes tx.deltas tx.tid h.epoch) i n in
    let first : ℕ = ring_place g ((tx.first + i) % ring_of g) in
    let fits = (piece_of g h old txs front back tx i n next big turn).fits in
    elim (partly.each (header_sector g)) [
      | inl same ↦ same
      | inr put ↦ put ∙ sector_before old first piece (header_sector g) fits (omega arith)
    ]

pub piece_ring : (g : Geometry) (h : Header) (old new : Image) (txs front back : List Tx) (tx : Tx) (i n : ℕ) → IsLogRing g h (ring_sector g old) txs (front ++ tx ∷ back)
    → 512 * ring_place g (ring_of g) ≤ length old → IsInOneTurn g tx i n
    → IsPartlyWritten (ring_place g ((tx.first + i) % ring_of g)) (sectors_from (tx_bytes tx.deltas tx.tid h.epoch) i n) old new
    → IsLogRing g h (ring_sector g new) txs (front ++ tx ∷ back)
piece_ring g h old new txs front back tx i n is big turn partly =
    let piece : List ℕ = sectors_from (tx_bytes tx.deltas tx.tid h.epoch) i n in
    let first : ℕ = ring_place g ((tx.first + i) % ring_of g) in
    let there = piece_of g h old txs front back tx i n is.next big turn in
    step_write g h (ring_sector g old) (ring_sector g new) txs (front ++ tx ∷ back) is (λ m below.
    let k : ℕ = ring_place g ((h.head + m) % ring_of g) in
    elim (partly.each k) [
      | inl same ↦ inl same
      | inr put ↦ elim (cases_lt k first) [
        | inl before ↦ inl (put ∙ sector_before old first piece k there.fits before)
        | inr from ↦ elim (cases_lt k (first + n)) [
          | inl within ↦
              let a : ℕ = k - first in
              let put_is : sector new k ≡ sector piece a = put ∙ sector_within old first piece k a there.fits (omega (arith, from)) (omega (arith, from, within, there.size)) in
              inr (subst (λ (l : List ℕ). IsSectorOfNext h txs (front ++ tx ∷ back) m l) (sym put_is)
              (piece_sector g h txs front back tx i n a m is.next is.begins.head turn (omega (arith, from, within)) below (omega (arith, from))))
          | inr past ↦ inl (put ∙ sector_behind old first piece k there.fits (omega (arith, past, there.size)))
        ]
      ]
    ])

pub piece_log : (g : Geometry) (h : Header) (old new : Image) (txs front back : List Tx) (tx : Tx) (i n : ℕ) → HasLog g h old txs (front ++ tx ∷ back)
    → 512 * ring_place g (ring_of g) ≤ length old → IsInOneTurn g tx i n
    → IsPartlyWritten (ring_place g ((tx.first + i) % ring_of g)) (sectors_from (tx_bytes tx.deltas tx.tid h.epoch) i n) old new → HasLog g h new txs (front ++ tx ∷ back)
piece_log g h old new txs front back tx i n has big turn partly =
    record {
      header = ap (λ (s : List ℕ). header_of g s) (piece_header g h old new txs front back tx i n has.ring.next big turn partly) ∙ has.header;
      ring = piece_ring g h old new txs front back tx i n has.ring big turn partly;
    }

-- so many more sectors stand written
pub piece_stands : (g : Geometry) (h : Header) (base : Image) (txs front back : List Tx) (tx : Tx) (i n : ℕ) → IsLogRing g h (ring_sector g base) txs (front ++ tx ∷ back)
    → 512 * ring_place g (ring_of g) ≤ length base → IsInOneTurn g tx i n → IsWrittenUpTo g h.epoch (ring_sector g base) i tx
    → IsWrittenUpTo g h.epoch (ring_sector g (image_after base (tx_write g h.epoch tx i n ∷ []))) (i + n) tx
piece_stands g h base txs front back tx i n is big turn written =
    let bytes : List ℕ = tx_bytes tx.deltas tx.tid h.epoch in
    let piece : List ℕ = sectors_from bytes i n in
    let start : ℕ = (tx.first + i) % ring_of g in
    let first : ℕ = ring_place g start in
    let next : AreNext g h txs (front ++ tx ∷ back) = is.next in
    let stands = among g h txs front back tx next in
    let room = among_room g h txs front back tx next in
    let there = piece_of g h base txs front back tx i n next big turn in
    let at_ring : tx.first < ring_of g = subst (λ (k : ℕ). k < ring_of g) (sym stands.first) (mod-lt (h.head + (sectors_of_txs txs + sectors_of_txs front)) (omega (arith, is.begins.head))) in
    record {
      each = λ j below.
          let p : ℕ = (tx.first + j) % ring_of g in
          elim (cases_lt j i) [
            | inl early ↦ elim (cases_lt p start) [
              | inl before ↦ sector_before base first piece (ring_place g p) there.fits (omega (arith, before)) ∙ written.each j early
              | inr from ↦ elim (cases_lt p (start + n)) [
                | inl within ↦
                    let a : ℕ = p - start in
                    let place : (tx.first + j) % ring_of g ≡ (tx.first + (i + a)) % ring_of g =
                    (let sum : p ≡ start + a = omega (arith, from) in sum) ∙ sym (piece_place g tx i n a turn (omega (arith, from, within))) in
                    let same : j ≡ i + a = same_place (ring_of g) tx.first j (i + a) at_ring (omega (arith, early, turn.sectors, room)) (omega (arith, from, within, turn.sectors, room)) place in
                    absurd (omega (arith, same, early))
                | inr past ↦ sector_behind base first piece (ring_place g p) there.fits (omega (arith, past, there.size)) ∙ written.each j early
              ]
            ]
            | inr late ↦
                let a : ℕ = j - i in
                let inside : a < n = omega (arith, below, late) in
                let back : i + a ≡ j = omega (arith, late) in
                let place : start + a ≡ p = sym (piece_place g tx i n a turn inside) ∙ ap (λ (k : ℕ). (tx.first + k) % ring_of g) back in
                sector_within base first piece (ring_place g p) a there.fits (omega (arith, place)) (omega (arith, inside, there.size))
                ∙ sector_of_part bytes i n a inside ∙ ap (λ (k : ℕ). sector bytes k) back
          ];
    }
