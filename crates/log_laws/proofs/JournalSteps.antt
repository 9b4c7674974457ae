-- The steps of a journal keep its ring.
use Rattle.std.proofs.Common.{◌≡◌, ℕ, ◌+◌, ◌-◌, ◌%◌, ◌^◌, ◌<◌, ◌≤◌, ◌⊎◌, inl, inr, List, [], ◌∷◌, ◌++◌, length, get_or, sym, ap, subst, ◌∙◌, arith}
use Rattle.std.specs.List.{All}
use Rattle.std.proofs.Math.Nat.{add-mod_right, mod-lt}
use Rattle.std.proofs.lemmas.Bool.{cases_lt}
use Rattle.std.proofs.lemmas.List.{length_push, get_or_append_left, get_or-append-add}
use Rattle.std.proofs.lemmas.List.Elements.{All-nil, All-cons, All-head, All-tail, All-push}
use Rattle.std.proofs.lemmas.List.Sums.{sum_by-cons, sum_by-append, sum_by_push}
use Rattle.lufs_base.specs.Fields.{u32_at}
use Rattle.lufs_base.specs.Layout.{IsGeometry, ring_of}
use Rattle.lufs_base.specs.declared.geometry.Geometry.{Geometry}
use Rattle.volume_model.specs.declared.log.Header.{Header}
use Rattle.volume_model.specs.declared.log.Tx.{Tx}
use Rattle.volume_model.specs.Log.{trailer_of}
use Rattle.log_laws.specs.TxsInRing.{sectors_in_tx, sectors_in_txs, sectors_of_txs, StandsAt, StandFrom, IsWritten, trimmed}
use Rattle.log_laws.specs.StaleSectors.{IsStale}
use Rattle.log_laws.specs.LogRing.{IsWrittenOrStale, IsLogRing, IsSectorOfNext, ListsSome}
use Rattle.log_laws.proofs.TxsListed.{tx_count_at}
use Rattle.log_laws.proofs.RingTurned.{place_of_sector, index_of}
use Rattle.log_laws.proofs.MountLists.{stand_push, begins_push, after_crash}
use Rattle.log_laws.proofs.RingKept.{sector_in_tx, begins_same, turned, stale_weaker, begins_trimmed, begins_front, front_stale, next_trimmed, each_trimmed, written_idents, written_size}

-- A mount of it lists the untrimmed transactions, and of the others those up to the first that isn't whole.
pub step_lists : (g : Geometry) (h : Header) (at_place : ℕ → List ℕ) (txs more : List Tx) → IsLogRing g h at_place txs more → ListsSome g h at_place txs more
step_lists g h at_place txs more is = after_crash g h at_place txs more is.begins is.next is.each (is.rest (sectors_of_txs txs + sectors_of_txs more) (omega arith))

-- a later epoch
pub step_new : (g : Geometry) (h : Header) (at_place : ℕ → List ℕ) → IsGeometry g → h.epoch < 2 ^ 32 → h.head < ring_of g → h.tid ≤ 2 ^ 32
    → ((place : ℕ) → place < ring_of g → (trailer_of (at_place place)).ident < h.epoch) → IsLogRing g h at_place [] []
step_new g h at_place is epoch_low inside_ring low older =
    record {
      begins = record {
        geometry = is;
        epoch = epoch_low;
        head = inside_ring;
        stand = tt;
        room = omega arith;
        numbers = omega (arith, low);
        written = All-nil (IsWritten g h.epoch at_place);
      };
      next = record { stand = tt; room = omega arith; numbers = omega (arith, low) };
      each = All-nil (IsWrittenOrStale g h at_place);
      rest = λ m from inside. record { older = λ same. absurd (omega (arith, older ((h.head + m) % ring_of g) (mod-lt (h.head + m) (omega (arith, inside))), same)) };
      idents = λ place below. omega (arith, older place below);
    }

-- one more transaction is to be written
pub step_seal : (g : Geometry) (h : Header) (at_place : ℕ → List ℕ) (txs more : List Tx) (tx : Tx) → IsLogRing g h at_place txs more
    → StandsAt g h.head (sectors_of_txs txs + sectors_of_txs more) (h.tid + length txs + length more) tx → tx.tid < 2 ^ 32 → sectors_of_txs txs + sectors_of_txs more + tx.sectors ≤ ring_of g
    → IsLogRing g h at_place txs (more ++ tx ∷ [])
step_seal g h at_place txs more tx is stands low room =
    let at : ℕ = sectors_of_txs txs + sectors_of_txs more in
    let sum : sectors_of_txs (more ++ tx ∷ []) ≡ sectors_of_txs more + tx.sectors = sum_by_push (λ (t : Tx). t.sectors) more tx in
    record {
      begins = is.begins;
      next = record {
        stand = stand_push g h.head (sectors_of_txs txs) (h.tid + length txs) more tx is.next.stand stands;
        room = omega (arith, sum, room);
        numbers = omega (arith, length_push more tx, stands.number, low);
      };
      each = All-push (IsWrittenOrStale g h at_place) more tx is.each (record {
        each = λ i below. inr (subst (λ (k : ℕ). IsStale h.epoch h.tid (at_place k)) (sym (place_of_sector g h.head at (h.tid + length txs + length more) i tx stands))
            (is.rest (at + i) (omega arith) (omega (arith, below, room))));
      });
      rest = λ m from. is.rest m (omega (arith, from, sum));
      idents = is.idents;
    }

-- sector m of what stands from sector `at` after the head on is that of the rows, or stale
pub each_from_row : (g : Geometry) (h : Header) (at tid : ℕ) (at_place : ℕ → List ℕ) (more : List Tx) → StandFrom g h.head at tid more
    → ((m : ℕ) → m < sectors_of_txs more → (at_place ((h.head + (at + m)) % ring_of g) ≡ get_or (sectors_in_txs h.epoch more) m []) ⊎ IsStale h.epoch h.tid (at_place ((h.head + (at + m)) % ring_of g)))
    → All (IsWrittenOrStale g h at_place) more
each_from_row g h at tid at_place [] stand each = All-nil (IsWrittenOrStale g h at_place)
each_from_row g h at tid at_place (tx ∷ more) stand each =
    let sum : sectors_of_txs (tx ∷ more) ≡ tx.sectors + sectors_of_txs more = sum_by-cons (λ (t : Tx). t.sectors) tx more in
    let row : List (List ℕ) = sectors_in_tx h.epoch tx in
    let rows : List (List ℕ) = sectors_in_txs h.epoch more in
    let long : length row ≡ tx.sectors = tx_count_at g h.head at tid h.epoch tx stand.0 in
    All-cons (IsWrittenOrStale g h at_place) tx more
    (record {
      each = λ i below.
          let inside : i < length row = omega (arith, below, long) in
          let place : (tx.first + i) % ring_of g ≡ (h.head + (at + i)) % ring_of g = place_of_sector g h.head at tid i tx stand.0 in
          elim (each i (omega (arith, below, sum))) [
            | inl here ↦ inl (ap at_place place ∙ here ∙ get_or_append_left row rows [] i inside ∙ sector_in_tx g h.head at tid h.epoch i tx stand.0 below)
            | inr stale ↦ inr (subst (λ (k : ℕ). IsStale h.epoch h.tid (at_place k)) (sym place) stale)
          ];
    })
    (each_from_row g h (at + tx.sectors) (tid + 1) at_place more stand.1 (λ m below.
    let next : at + (tx.sectors + m) ≡ at + tx.sectors + m = omega arith in
    let back : tx.sectors + m ≡ length row + m = omega (arith, long) in
    elim (each (tx.sectors + m) (omega (arith, below, sum))) [
      | inl here ↦ inl (ap (λ (k : ℕ). at_place ((h.head + k) % ring_of g)) (sym next) ∙ here ∙ ap (λ (k : ℕ). get_or (row ++ rows) k []) back ∙ get_or-append-add row rows m [])
      | inr stale ↦ inr (subst (λ (k : ℕ). IsStale h.epoch h.tid (at_place ((h.head + k) % ring_of g))) next stale)
    ]))

-- what stands at the places of those that are being written
row_from_each : (g : Geometry) (h : Header) (at tid m : ℕ) (at_place : ℕ → List ℕ) (more : List Tx) → StandFrom g h.head at tid more → All (IsWrittenOrStale g h at_place) more → m < sectors_of_txs more
    → (at_place ((h.head + (at + m)) % ring_of g) ≡ get_or (sectors_in_txs h.epoch more) m []) ⊎ IsStale h.epoch h.tid (at_place ((h.head + (at + m)) % ring_of g))
row_from_each g h at tid m at_place [] stand maybe below = absurd (omega (arith, below))
row_from_each g h at tid m at_place (tx ∷ more) stand maybe below =
    let sum : sectors_of_txs (tx ∷ more) ≡ tx.sectors + sectors_of_txs more = sum_by-cons (λ (t : Tx). t.sectors) tx more in
    let row : List (List ℕ) = sectors_in_tx h.epoch tx in
    let rows : List (List ℕ) = sectors_in_txs h.epoch more in
    let long : length row ≡ tx.sectors = tx_count_at g h.head at tid h.epoch tx stand.0 in
    elim (cases_lt m tx.sectors) [
      | inl here ↦
          let place : (tx.first + m) % ring_of g ≡ (h.head + (at + m)) % ring_of g = place_of_sector g h.head at tid m tx stand.0 in
          elim ((All-head (IsWrittenOrStale g h at_place) tx more maybe).each m here) [
            | inl is ↦ inl (ap at_place (sym place) ∙ is ∙ sym (sector_in_tx g h.head at tid h.epoch m tx stand.0 here) ∙ sym (get_or_append_left row rows [] m (omega (arith, here, long))))
            | inr stale ↦ inr (subst (λ (k : ℕ). IsStale h.epoch h.tid (at_place k)) place stale)
          ]
      | inr later ↦
          let j : ℕ = m - tx.sectors in
          let next : at + tx.sectors + j ≡ at + m = omega (arith, later) in
          let back : length row + j ≡ m = omega (arith, long, later) in
          elim (row_from_each g h (at + tx.sectors) (tid + 1) j at_place more stand.1 (All-tail (IsWrittenOrStale g h at_place) tx more maybe) (omega (arith, below, later, sum))) [
            | inl is ↦ inl (ap (λ (k : ℕ). at_place ((h.head + k) % ring_of g)) (sym next) ∙ is ∙ sym (get_or-append-add row rows j []) ∙ ap (λ (k : ℕ). get_or (row ++ rows) k []) back)
            | inr stale ↦ inr (subst (λ (k : ℕ). IsStale h.epoch h.tid (at_place ((h.head + k) % ring_of g))) next stale)
          ]
    ]

-- each sector of the ring stays, or is now as it is to be written
pub step_write : (g : Geometry) (h : Header) (before after : ℕ → List ℕ) (txs more : List Tx) → IsLogRing g h before txs more
    → ((m : ℕ) → m < ring_of g → (after ((h.head + m) % ring_of g) ≡ before ((h.head + m) % ring_of g)) ⊎ IsSectorOfNext h txs more m (after ((h.head + m) % ring_of g)))
    → IsLogRing g h after txs more
step_write g h before after txs more is choice =
    let S : ℕ = sectors_of_txs txs in
    record {
      begins = begins_same g h before after txs is.begins (λ m below.
          elim (choice m (omega (arith, below, is.begins.room))) [
            | inl same ↦ same
            | inr new ↦ absurd (omega (arith, below, new.place))
          ]);
      next = is.next;
      each = each_from_row g h S (h.tid + length txs) after more is.next.stand (λ m below.
          elim (choice (S + m) (omega (arith, below, is.next.room))) [
            | inl same ↦ elim (row_from_each g h S (h.tid + length txs) m before more is.next.stand is.each below) [
              | inl here ↦ inl (same ∙ here)
              | inr stale ↦ inr (subst (λ (s : List ℕ). IsStale h.epoch h.tid s) (sym same) stale)
            ]
            | inr new ↦ let index : new.index ≡ m = omega (arith, new.place) in inl (new.is ∙ ap (λ (k : ℕ). get_or (sectors_in_txs h.epoch more) k []) index)
          ]);
      rest = λ m from inside.
          elim (choice m inside) [
            | inl same ↦ subst (λ (s : List ℕ). IsStale h.epoch h.tid s) (sym same) (is.rest m from inside)
            | inr new ↦ absurd (omega (arith, from, new.below, new.place))
          ];
      idents = λ place below.
          let found = index_of (ring_of g) h.head place is.begins.head below in
          let ident : u32_at (after ((h.head + found.0) % ring_of g)) 508 ≤ h.epoch =
          elim (choice found.0 found.1) [
            | inl same ↦ subst (λ (s : List ℕ). u32_at s 508 ≤ h.epoch) (sym same) (is.idents ((h.head + found.0) % ring_of g) (mod-lt (h.head + found.0) (omega (arith, below))))
            | inr new ↦
                let size : length (sectors_in_txs h.epoch more) ≡ sectors_of_txs more = written_size g h.head S (h.tid + length txs) h.epoch more is.next.stand in
                let of_epoch : u32_at (get_or (sectors_in_txs h.epoch more) new.index []) 508 ≡ h.epoch =
                written_idents g h.head S (h.tid + length txs) h.epoch more is.begins.epoch is.next.numbers is.next.stand new.index [] (omega (arith, new.below, size)) in
                let there : u32_at (after ((h.head + found.0) % ring_of g)) 508 ≡ h.epoch = ap (λ (s : List ℕ). u32_at s 508) new.is ∙ of_epoch in
                omega (arith, there)
          ] in
          subst (λ (k : ℕ). u32_at (after k) 508 ≤ h.epoch) found.2 ident;
    }

-- the same sectors
pub step_same : (g : Geometry) (h : Header) (before after : ℕ → List ℕ) (txs more : List Tx) → ((place : ℕ) → place < ring_of g → after place ≡ before place)
    → IsLogRing g h before txs more → IsLogRing g h after txs more
step_same g h before after txs more same is =
    step_write g h before after txs more is (λ m below. inl (same ((h.head + m) % ring_of g) (mod-lt (h.head + m) (omega (arith, below)))))

-- the first of those that were being written stands whole
pub step_publish : (g : Geometry) (h : Header) (at_place : ℕ → List ℕ) (txs more : List Tx) (tx : Tx) → IsLogRing g h at_place txs (tx ∷ more) → IsWritten g h.epoch at_place tx
    → IsLogRing g h at_place (txs ++ tx ∷ []) more
step_publish g h at_place txs more tx is written =
    let sum : sectors_of_txs (tx ∷ more) ≡ tx.sectors + sectors_of_txs more = sum_by-cons (λ (t : Tx). t.sectors) tx more in
    let place : sectors_of_txs (txs ++ tx ∷ []) ≡ sectors_of_txs txs + tx.sectors = sum_by_push (λ (t : Tx). t.sectors) txs tx in
    let count : length (txs ++ tx ∷ []) ≡ length txs + 1 = length_push txs tx in
    let number : h.tid + length txs + 1 ≡ h.tid + length (txs ++ tx ∷ []) = omega (arith, count) in
    record {
      begins = begins_push g h at_place txs tx is.begins is.next.stand.0 (omega (arith, is.next.stand.0.number, is.next.numbers)) (omega (arith, sum, is.next.room)) written;
      next = record {
        stand = subst (λ (k : ℕ). StandFrom g h.head k (h.tid + length (txs ++ tx ∷ [])) more) (sym place)
            (subst (λ (k : ℕ). StandFrom g h.head (sectors_of_txs txs + tx.sectors) k more) number is.next.stand.1);
        room = omega (arith, sum, place, is.next.room);
        numbers = omega (arith, count, is.next.numbers);
      };
      each = All-tail (IsWrittenOrStale g h at_place) tx more is.each;
      rest = λ m from. is.rest m (omega (arith, from, sum, place));
      idents = is.idents;
    }

-- by the header that names the first of the rest, it is the ring of the rest
pub step_trim : (g : Geometry) (h : Header) (at_place : ℕ → List ℕ) (front rest more : List Tx) → IsLogRing g h at_place (front ++ rest) more → IsLogRing g (trimmed g h front) at_place rest more
step_trim g h at_place front rest more is =
    let c : ℕ = sectors_of_txs front in
    let low : ℕ = h.tid + length front in
    let sum : sectors_of_txs (front ++ rest) ≡ c + sectors_of_txs rest = sum_by-append (λ (t : Tx). t.sectors) front rest in
    record {
      begins = begins_trimmed g h at_place front rest is.begins;
      next = next_trimmed g h front rest more is.next;
      each = each_trimmed g h at_place front more is.each;
      rest = λ m from inside.
          elim (cases_lt (c + m) (ring_of g)) [
            | inl below ↦
                subst (λ (k : ℕ). IsStale h.epoch low (at_place k)) (sym (turned g h.head c m))
                (stale_weaker h.epoch h.tid low _ (omega arith) (is.rest (c + m) (omega (arith, sum, from)) below))
            | inr past ↦
                let left : ℕ = c + m - ring_of g in
                let back : h.head + (c + m) ≡ h.head + left + ring_of g = omega (arith, past) in
                let place : ((h.head + c) % ring_of g + m) % ring_of g ≡ (h.head + left) % ring_of g =
                turned g h.head c m ∙ ap (λ (k : ℕ). k % ring_of g) back ∙ add-mod_right (h.head + left) (ring_of g) in
                subst (λ (k : ℕ). IsStale h.epoch low (at_place k)) (sym place)
                (front_stale g h at_place front left (begins_front g h at_place front rest is.begins) (omega (arith, past, inside)))
          ];
      idents = is.idents;
    }
