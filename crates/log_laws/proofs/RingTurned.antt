-- The ring from its head on as one row: what stands at its places is what stands at the front of the row.
use Rattle.std.proofs.Common.{◌≡◌, ℕ, ◌+◌, ◌%◌, ◌-◌, ◌<◌, ◌≤◌, eqb, false, inl, inr, List, [], ◌∷◌, ◌++◌, length, take, drop, get_or, sym, ap, subst, ◌∙◌, arith, append_assoc}
use Rattle.std.specs.List.{All}
use Rattle.std.proofs.Math.Nat.{mod-add-mod, mod-eq_of_lt, add-mod_right}
use Rattle.std.proofs.lemmas.Bool.{cases_Bool, cases_lt, and_left, and_right, eqb-true, ne_eqb}
use Rattle.std.proofs.lemmas.List.{take-append-drop, length-take-le, take_all, drop-drop, drop_more, drop_all, get_or-take, get_or-drop, ext_get_or, length-drop}
use Rattle.std.proofs.lemmas.List.Elements.{All-head, All-tail}
use Rattle.std.proofs.lemmas.List.FromFn.{length-map-range_with_len, get_or-map-range_with_len}
use Rattle.std.proofs.lemmas.List.Sums.{sum_by-cons}
use Rattle.lufs_base.specs.Fields.{u32_at}
use Rattle.lufs_base.specs.Layout.{ring_of}
use Rattle.lufs_base.specs.declared.geometry.Geometry.{Geometry}
use Rattle.volume_model.specs.declared.log.Header.{Header}
use Rattle.volume_model.specs.declared.log.Tx.{Tx}
use Rattle.volume_model.specs.Format.{sector, sectors_of}
use Rattle.volume_model.specs.Log.{belongs_to, ring_from, tx_bytes}
use Rattle.log_laws.specs.TxsInRing.{sectors_in_tx, sectors_in_txs, sectors_of_txs, StandsAt, StandFrom, IsWritten, IsWrittenUpTo}
use Rattle.log_laws.specs.StaleSectors.{IsStale, IsStaleAt}
use Rattle.log_laws.proofs.RowListed.{EndsBefore}
use Rattle.log_laws.proofs.TxsListed.{tx_count_at}

pub ring_size : (g : Geometry) (head : ℕ) (at_place : ℕ → List ℕ) → length (ring_from (ring_of g) head at_place) ≡ ring_of g
ring_size g head at_place = length-map-range_with_len (λ i. at_place ((head + i) % ring_of g)) 0 (ring_of g)

pub sector_of_ring : (g : Geometry) (head i : ℕ) (at_place : ℕ → List ℕ) → i < ring_of g → get_or (ring_from (ring_of g) head at_place) i [] ≡ at_place ((head + i) % ring_of g)
sector_of_ring g head i at_place below = get_or-map-range_with_len (λ i. at_place ((head + i) % ring_of g)) 0 (ring_of g) i i [] below (omega arith)

-- a list that has the elements of a row at its front
front_by_places : {X : Type 0} (row whole : List X) (d : X) → length row ≤ length whole → ((i : ℕ) → i < length row → get_or whole i d ≡ get_or row i d) → whole ≡ row ++ drop (length row) whole
front_by_places row whole d room same =
    let size : length (take (length row) whole) ≡ length row = length-take-le (length row) whole room in
    let front : take (length row) whole ≡ row =
    ext_get_or d (take (length row) whole) row size
    (λ i below.
    let inside : i < length row = omega (arith, below, size) in
    get_or-take (length row) whole i d inside ∙ same i inside) in
    sym (take-append-drop (length row) whole) ∙ ap (λ l. l ++ drop (length row) whole) front

-- the place of a transaction's sector, counted from the head
pub place_of_sector : (g : Geometry) (head at tid i : ℕ) (tx : Tx) → StandsAt g head at tid tx → (tx.first + i) % ring_of g ≡ (head + (at + i)) % ring_of g
place_of_sector g head at tid i tx stands =
    let sum : head + at + i ≡ head + (at + i) = omega arith in
    ap (λ (k : ℕ). (k + i) % ring_of g) stands.first ∙ mod-add-mod (head + at) (ring_of g) i ∙ ap (λ (k : ℕ). k % ring_of g) sum

-- the first sectors of a transaction, as they stand
pub part_at : (g : Geometry) (head at tid n epoch : ℕ) (at_place : ℕ → List ℕ) (tx : Tx) → StandsAt g head at tid tx → n ≤ tx.sectors → at + n ≤ ring_of g → IsWrittenUpTo g epoch at_place n tx
    → drop at (ring_from (ring_of g) head at_place) ≡ take n (sectors_in_tx epoch tx) ++ drop (at + n) (ring_from (ring_of g) head at_place)
part_at g head at tid n epoch at_place tx stands part room written =
    let ring : List (List ℕ) = ring_from (ring_of g) head at_place in
    let row : List (List ℕ) = sectors_in_tx epoch tx in
    let bytes : List ℕ = tx_bytes tx.deltas tx.tid epoch in
    let long : length row ≡ tx.sectors = tx_count_at g head at tid epoch tx stands in
    let count : length row ≡ sectors_of bytes = length-map-range_with_len (sector bytes) 0 (sectors_of bytes) in
    let size : length (take n row) ≡ n = length-take-le n row (omega (arith, long)) in
    let left : length (drop at ring) ≡ ring_of g - at = omega (arith, length-drop at ring, ring_size g head at_place) in
    front_by_places (take n row) (drop at ring) [] (omega (arith, size, left))
    (λ i below.
    let inside : i < n = omega (arith, below, size) in
    get_or-drop at ring i []
    ∙ sector_of_ring g head (at + i) at_place (omega (arith, inside))
    ∙ ap at_place (sym (place_of_sector g head at tid i tx stands))
    ∙ written.each i inside
    ∙ sym (get_or-map-range_with_len (sector bytes) 0 (sectors_of bytes) i i [] (omega (arith, inside, long, count)) (omega arith))
    ∙ sym (get_or-take n row i [] inside))
    ∙ ap (λ (l : List (List ℕ)). take n row ++ l) (drop-drop (length (take n row)) at ring ∙ ap (λ (k : ℕ). drop (at + k) ring) size)

-- transactions at their places in the ring are rows at the front of what is left of it
pub written_at : (g : Geometry) (head at tid epoch : ℕ) (at_place : ℕ → List ℕ) (txs : List Tx) → StandFrom g head at tid txs → at + sectors_of_txs txs ≤ ring_of g
    → All (IsWritten g epoch at_place) txs → drop at (ring_from (ring_of g) head at_place) ≡ sectors_in_txs epoch txs ++ drop (at + sectors_of_txs txs) (ring_from (ring_of g) head at_place)
written_at g head at tid epoch at_place [] stand room written =
    let none : at ≡ at + 0 = omega arith in
    ap (λ (k : ℕ). drop k (ring_from (ring_of g) head at_place)) none
written_at g head at tid epoch at_place (tx ∷ txs) stand room written =
    let ring : List (List ℕ) = ring_from (ring_of g) head at_place in
    let row : List (List ℕ) = sectors_in_tx epoch tx in
    let sum : sectors_of_txs (tx ∷ txs) ≡ tx.sectors + sectors_of_txs txs = sum_by-cons (λ (t : Tx). t.sectors) tx txs in
    let long : length row ≡ tx.sectors = tx_count_at g head at tid epoch tx stand.0 in
    let whole : take tx.sectors row ≡ row = take_all tx.sectors row (omega (arith, long)) in
    let end : at + tx.sectors + sectors_of_txs txs ≡ at + sectors_of_txs (tx ∷ txs) = omega (arith, sum) in
    part_at g head at tid tx.sectors epoch at_place tx stand.0 (omega arith) (omega (arith, sum, room)) (All-head (IsWritten g epoch at_place) tx txs written)
    ∙ ap (λ (l : List (List ℕ)). l ++ drop (at + tx.sectors) ring) whole
    ∙ ap (λ (l : List (List ℕ)). row ++ l)
    (written_at g head (at + tx.sectors) (tid + 1) epoch at_place txs stand.1 (omega (arith, sum, room)) (All-tail (IsWritten g epoch at_place) tx txs written)
    ∙ ap (λ (k : ℕ). sectors_in_txs epoch txs ++ drop k ring) end)
    ∙ sym (append_assoc row (sectors_in_txs epoch txs) (drop (at + sectors_of_txs (tx ∷ txs)) ring))

-- a stale sector belongs to no transaction from this number on
pub stale_belongs_not : (epoch low tid : ℕ) (s : List ℕ) → IsStale epoch low s → low ≤ tid → belongs_to epoch tid s ≡ false
stale_belongs_not epoch low tid s stale from =
    elim (cases_Bool (eqb (u32_at s 508) epoch)) [
      | inl of_epoch ↦
          let older : u32_at s 504 < low = stale.older (eqb-true _ _ of_epoch) in
          and_left (eqb (u32_at s 504) tid) (eqb (u32_at s 508) epoch) (ne_eqb (u32_at s 504) tid (λ same. omega (arith, older, same)))
      | inr other ↦ and_right (eqb (u32_at s 504) tid) (eqb (u32_at s 508) epoch) other
    ]

-- and ends each row from it on
pub stale_ends : (g : Geometry) (h : Header) (m tid : ℕ) (at_place : ℕ → List ℕ) → IsStaleAt g h at_place m → h.tid ≤ tid → EndsBefore h.epoch tid (drop m (ring_from (ring_of g) h.head at_place))
stale_ends g h m tid at_place stale from =
    let ring : List (List ℕ) = ring_from (ring_of g) h.head at_place in
    elim (cases_lt m (ring_of g)) [
      | inl below ↦
          let size : length ring ≡ ring_of g = ring_size g h.head at_place in
          let split : drop m ring ≡ at_place ((h.head + m) % ring_of g) ∷ drop (m + 1) ring =
          drop_more ring m [] (omega (arith, size, below)) ∙ ap (λ (s : List ℕ). s ∷ drop (m + 1) ring) (sector_of_ring g h.head m at_place below) in
          subst (λ (l : List (List ℕ)). EndsBefore h.epoch tid l) (sym split) (stale_belongs_not h.epoch h.tid tid _ (stale below) from)
      | inr past ↦ subst (λ (l : List (List ℕ)). EndsBefore h.epoch tid l) (sym (drop_all m ring (omega (arith, past, ring_size g h.head at_place)))) tt
    ]

-- each place of the ring is some way after the head
pub index_of : (r head place : ℕ) → head < r → place < r → (m : ℕ) × (m < r) × ((head + m) % r ≡ place)
index_of r head place inside below =
    elim (cases_lt place head) [
      | inl before ↦
          let sum : head + (place + r - head) ≡ place + r = omega arith in
          (place + r - head, omega (arith, before, inside), ap (λ (k : ℕ). k % r) sum ∙ add-mod_right place r ∙ mod-eq_of_lt below)
      | inr later ↦
          let sum : head + (place - head) ≡ place = omega arith in
          (place - head, omega (arith, later, below), ap (λ (k : ℕ). k % r) sum ∙ mod-eq_of_lt below)
    ]
