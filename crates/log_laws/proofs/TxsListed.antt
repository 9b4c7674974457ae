-- Transactions that stand one after the other are listed, one by one.
use Rattle.std.proofs.Common.{◌≡◌, ℕ, suc, ◌+◌, ◌%◌, ◌^◌, ◌<◌, ◌≤◌, true, List, [], ◌∷◌, ◌++◌, length, refl, sym, ap, subst, ◌∙◌, arith, append_assoc}
use Rattle.std.specs.List.{All}
use Rattle.std.proofs.lemmas.List.FromFn.{length-map-range_with_len}
use Rattle.std.proofs.lemmas.List.Sums.{sum_by-cons}
use Rattle.lufs_base.specs.Layout.{IsGeometry, ring_of}
use Rattle.lufs_base.specs.declared.geometry.Geometry.{Geometry}
use Rattle.volume_model.specs.declared.log.Header.{Header}
use Rattle.volume_model.specs.declared.log.Tx.{Tx}
use Rattle.volume_model.specs.Format.{sector, sectors_of}
use Rattle.volume_model.specs.Log.{belongs_to, payload_of, Transactions, Listed, with_tx, transactions_from, Whole, run_of, AreLoggable, tx_sectors, tx_bytes}
use Rattle.log_laws.proofs.TxRead.{tx_reads, tx_trailers, tx_size}
use Rattle.log_laws.specs.TxsInRing.{sectors_in_tx, sectors_in_txs, sectors_of_txs, StandsAt, StandFrom}
use Rattle.log_laws.proofs.RowListed.{EndsBefore, other_ends, tx_listed}

-- a listing with these transactions in front
abbrev pub with_txs : List Tx → Transactions → Transactions
with_txs [] listing = listing
with_txs (tx ∷ txs) listing = with_tx tx (with_txs txs listing)

pub with_txs-none : (txs : List Tx) → with_txs txs (Listed []) ≡ Listed txs
with_txs-none [] = refl
with_txs-none (tx ∷ txs) = ap (λ (t : Transactions). with_tx tx t) (with_txs-none txs)

pub tx_count : (g : Geometry) (epoch : ℕ) (tx : Tx) → AreLoggable g tx.deltas → length (sectors_in_tx epoch tx) ≡ tx_sectors tx.deltas
tx_count g epoch tx are =
    let bytes : List ℕ = tx_bytes tx.deltas tx.tid epoch in
    let count : length (sectors_in_tx epoch tx) ≡ sectors_of bytes = length-map-range_with_len (sector bytes) 0 (sectors_of bytes) in
    omega (arith, count, tx_size g tx.deltas tx.tid epoch are)

pub tx_count_at : (g : Geometry) (head at tid epoch : ℕ) (tx : Tx) → StandsAt g head at tid tx → length (sectors_in_tx epoch tx) ≡ tx.sectors
tx_count_at g head at tid epoch tx stands = tx_count g epoch tx stands.loggable ∙ sym stands.size

pub some_sectors : (g : Geometry) (head at tid : ℕ) (tx : Tx) → StandsAt g head at tid tx → 0 < tx.sectors
some_sectors g head at tid tx stands = omega (arith, stands.size)

-- what stands after a transaction, if it has these numbers, ends its row
next_ends : (g : Geometry) (epoch head at tid : ℕ) (txs : List Tx) (rest : List (List ℕ)) → epoch < 2 ^ 32 → tid + 1 + length txs ≤ 2 ^ 32 → StandFrom g head at (tid + 1) txs
    → (length txs ≡ 0 → EndsBefore epoch tid rest) → EndsBefore epoch tid (sectors_in_txs epoch txs ++ rest)
next_ends g epoch head at tid [] rest epoch_low low stand last = last refl
next_ends g epoch head at tid (tx ∷ txs) rest epoch_low low stand last =
    let number : tx.tid ≡ tid + 1 = stand.0.number in
    subst (λ (l : List (List ℕ)). EndsBefore epoch tid l) (sym (append_assoc (sectors_in_tx epoch tx) (sectors_in_txs epoch txs) rest))
    (other_ends epoch tid tx.tid (sectors_in_tx epoch tx) (sectors_in_txs epoch txs ++ rest) (λ same. omega (arith, same, number))
    (omega (arith, tx_count_at g head at (tid + 1) epoch tx stand.0, some_sectors g head at (tid + 1) tx stand.0))
    (tx_trailers g tx.deltas tx.tid epoch stand.0.loggable (omega (arith, number)) epoch_low))

pub same_listing : (g : Geometry) (h : Header) (n m tid tid' at at' : ℕ) (rest rest' : List (List ℕ)) → n ≡ m → tid ≡ tid' → at ≡ at' → rest ≡ rest'
    → transactions_from g (ring_of g) h n tid at rest ≡ transactions_from g (ring_of g) h m tid' at' rest'
same_listing g h n m tid tid' at at' rest rest' n_is tid_is at_is rest_is =
    ap (λ (k : ℕ). transactions_from g (ring_of g) h k tid at rest) n_is
    ∙ ap (λ (k : ℕ). transactions_from g (ring_of g) h m k at rest) tid_is
    ∙ ap (λ (k : ℕ). transactions_from g (ring_of g) h m tid' k rest) at_is
    ∙ ap (λ (l : List (List ℕ)). transactions_from g (ring_of g) h m tid' at' l) rest_is

same_tx : (tx : Tx) (first sectors : ℕ) → tx.first ≡ first → tx.sectors ≡ sectors → record { tid = tx.tid; first = first; sectors = sectors; deltas = tx.deltas } ≡ tx
same_tx tx first sectors first_is sectors_is =
    let one : ℕ → Tx = λ n. record { tid = tx.tid; first = n; sectors = sectors; deltas = tx.deltas } in
    let two : ℕ → Tx = λ n. record { tid = tx.tid; first = tx.first; sectors = n; deltas = tx.deltas } in
    ap one (sym first_is) ∙ ap two (sym sectors_is)

-- the transaction at the front, as it stands
one_listed : (g : Geometry) (h : Header) (at tid more : ℕ) (tx : Tx) (rest : List (List ℕ)) → IsGeometry g → h.epoch < 2 ^ 32 → tid < 2 ^ 32 → StandsAt g h.head at tid tx
    → EndsBefore h.epoch tid rest
    → transactions_from g (ring_of g) h (suc more) tid at (sectors_in_tx h.epoch tx ++ rest) ≡ with_tx tx (transactions_from g (ring_of g) h more (tid + 1) (at + tx.sectors) rest)
one_listed g h at tid more tx rest is epoch_low low stands ends =
    let row : List (List ℕ) = sectors_in_tx h.epoch tx in
    let number : tx.tid ≡ tid = stands.number in
    let tid_low : tx.tid < 2 ^ 32 = omega (arith, number, low) in
    let long : length row ≡ tx.sectors = tx_count_at g h.head at tid h.epoch tx stands in
    let all : All (λ s. belongs_to h.epoch tx.tid s ≡ true) row = tx_trailers g tx.deltas tx.tid h.epoch stands.loggable tid_low epoch_low in
    let whole : run_of g tx.tid (payload_of row) ≡ Whole tx.deltas = tx_reads g tx.deltas tx.tid h.epoch is stands.loggable tid_low in
    let tail : Transactions = transactions_from g (ring_of g) h more (tx.tid + 1) (at + length row) rest in
    same_listing g h (suc more) (suc more) tid tx.tid at at (row ++ rest) (row ++ rest) refl (sym number) refl refl
    ∙ tx_listed g h tx.tid at more row rest tx.deltas all (subst (λ (k : ℕ). EndsBefore h.epoch k rest) (sym number) ends) whole
    ∙ ap (λ (t : Tx). with_tx t tail) (same_tx tx ((h.head + at) % ring_of g) (length row) stands.first (sym long))
    ∙ ap (λ (t : Transactions). with_tx tx t)
    (same_listing g h more more (tx.tid + 1) (tid + 1) (at + length row) (at + tx.sectors) rest rest refl (ap (λ (k : ℕ). k + 1) number) (ap (λ (k : ℕ). at + k) long) refl)

-- all of them are listed, and the listing goes on after the last one
pub all_listed : (g : Geometry) (h : Header) (n more at tid : ℕ) (txs : List Tx) (rest : List (List ℕ)) → IsGeometry g → h.epoch < 2 ^ 32 → tid + length txs ≤ 2 ^ 32
    → StandFrom g h.head at tid txs → ((k : ℕ) → tid ≤ k → k + 1 ≡ tid + length txs → EndsBefore h.epoch k rest) → n ≡ length txs + more
    → transactions_from g (ring_of g) h n tid at (sectors_in_txs h.epoch txs ++ rest) ≡ with_txs txs (transactions_from g (ring_of g) h more (tid + length txs) (at + sectors_of_txs txs) rest)
all_listed g h n more at tid [] rest is epoch_low low stand last n_is =
    same_listing g h n more tid (tid + 0) at (at + 0) rest rest (omega (arith, n_is)) (omega arith) (omega arith) refl
all_listed g h n more at tid (tx ∷ txs) rest is epoch_low low stand last n_is =
    let fuel : n ≡ suc (length txs + more) = omega (arith, n_is) in
    let sum : sectors_of_txs (tx ∷ txs) ≡ tx.sectors + sectors_of_txs txs = sum_by-cons (λ (t : Tx). t.sectors) tx txs in
    let others : List (List ℕ) = sectors_in_txs h.epoch txs ++ rest in
    let ends : EndsBefore h.epoch tid others =
    next_ends g h.epoch h.head (at + tx.sectors) tid txs rest epoch_low (omega (arith, low)) stand.1 (λ none. last tid (omega arith) (omega (arith, none))) in
    same_listing g h n (suc (length txs + more)) tid tid at at (sectors_in_txs h.epoch (tx ∷ txs) ++ rest) (sectors_in_tx h.epoch tx ++ others) fuel refl refl (append_assoc (sectors_in_tx h.epoch tx) (sectors_in_txs h.epoch txs) rest)
    ∙ one_listed g h at tid (length txs + more) tx others is epoch_low (omega (arith, low)) stand.0 ends
    ∙ ap (λ (t : Transactions). with_tx tx t)
    (all_listed g h (length txs + more) more (at + tx.sectors) (tid + 1) txs rest is epoch_low (omega (arith, low)) stand.1
    (λ k above number. last k (omega (arith, above)) (omega (arith, number))) refl)
    ∙ ap (λ (t : Transactions). with_tx tx (with_txs txs t))
    (same_listing g h more more (tid + 1 + length txs) (tid + length (tx ∷ txs)) (at + tx.sectors + sectors_of_txs txs) (at + sectors_of_txs (tx ∷ txs)) rest rest
    refl (omega arith) (omega (arith, sum)) refl)
