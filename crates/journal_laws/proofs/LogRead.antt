-- What a log that lists transactions says of its header, of its ring, and of the deltas.
use Rattle.std.proofs.Common.{◌≡◌, ◌<◌, ℕ, zero, suc, ◌+◌, ◌%◌, Bool, true, false, List, [], length, drop, Option, Some, None, refl, sym, ap, ◌∙◌, subst, arith}
use Rattle.std.proofs.Math.Nat.{mod-lt}
use Rattle.std.proofs.lemmas.Bool.{false≢true}
use Rattle.std.proofs.lemmas.List.{ext_get_or}
use Rattle.lufs_base.specs.Layout.{ring_of, header_sector}
use Rattle.lufs_base.specs.declared.geometry.Geometry.{Geometry}
use Rattle.lufs_base.specs.declared.delta.Delta.{Delta}
use Rattle.volume_model.specs.declared.log.Header.{Header}
use Rattle.volume_model.specs.declared.log.Tx.{Tx}
use Rattle.volume_model.specs.Format.{Image, sector}
use Rattle.volume_model.specs.Log.{header_of, is_cancel, is_home_of, may_be_logged, AreLoggable, Run, Whole, Short, Bad, run_of, payload_of, row_of, Transactions, Listed, BadRun, with_tx, transactions_at, transactions_from, ring_from, NoHeader, WithHeader, log_after, log_with, log_of, cancels, live_deltas}
use Rattle.volume_model.specs.Log as Logs
use Rattle.log_laws.specs.LogOnImage.{ring_sector}
use Rattle.log_laws.proofs.RingTurned.{ring_size, sector_of_ring}
use Rattle.log_laws.proofs.WholeRun.{whole_loggable}
use Rattle.journal_laws.proofs.RollFacts.{AllLoggable}

-- the parts of a log, and what they are where there is none
abbrev header_in : Logs.Log → Header → Header
header_in NoHeader h = h
header_in (WithHeader h txs) other = h

abbrev listing_in : Logs.Log → Transactions
listing_in NoHeader = Listed []
listing_in (WithHeader h txs) = txs

abbrev has_header : Logs.Log → Bool
has_header NoHeader = false
has_header (WithHeader h txs) = true

abbrev list_in : Transactions → List Tx
list_in (Listed txs) = txs
list_in (BadRun tid place) = []

abbrev is_listed : Transactions → Bool
is_listed (Listed txs) = true
is_listed (BadRun tid place) = false

-- what stands in the ring from the head of a header on
abbrev pub listing_by : Geometry → Header → (ℕ → List ℕ) → Transactions
listing_by g h at_place = transactions_from g (ring_of g) h (suc (ring_of g)) h.tid 0 (ring_from (ring_of g) h.head at_place)

log_by_parts : (g : Geometry) (at_place : ℕ → List ℕ) (o : Option Header) (h : Header) (t : Transactions) → log_after g at_place o ≡ WithHeader h t
    → (o ≡ Some h) × (listing_by g h at_place ≡ t)
log_by_parts g at_place None h t is = absurd (false≢true (ap has_header is))
log_by_parts g at_place (Some k) h t is =
    let same : k ≡ h = ap (λ (l : Logs.Log). header_in l h) is in
    (ap (λ (x : Header). Some x) same, ap (λ (x : Header). listing_by g x at_place) (sym same) ∙ ap listing_in is)

pub log_read : (g : Geometry) (image : Image) (h : Header) (t : Transactions) → log_of g image ≡ WithHeader h t
    → (header_of g (sector image (header_sector g)) ≡ Some h) × (listing_by g h (ring_sector g image) ≡ t)
unfolding log_with
log_read g image h t is = log_by_parts g (ring_sector g image) (header_of g (sector image (header_sector g))) h t is

-- the same ring lists the same
pub same_listing : (g : Geometry) (h : Header) (before after : ℕ → List ℕ) → ((place : ℕ) → place < ring_of g → after place ≡ before place) → listing_by g h after ≡ listing_by g h before
same_listing g h before after same =
    ap (λ (l : List (List ℕ)). transactions_from g (ring_of g) h (suc (ring_of g)) h.tid 0 l)
    (ext_get_or [] (ring_from (ring_of g) h.head after) (ring_from (ring_of g) h.head before) (ring_size g h.head after ∙ sym (ring_size g h.head before))
    (λ i below.
    let inside : i < ring_of g = omega (arith, below, ring_size g h.head after) in
    sector_of_ring g h.head i after inside ∙ same ((h.head + i) % ring_of g) (mod-lt (h.head + i) (omega (arith, inside))) ∙ sym (sector_of_ring g h.head i before inside)))

-- The deltas of each transaction that is listed may be those of one.
listed_after : (g : Geometry) (tx : Tx) (t : Transactions) (txs : List Tx) → AreLoggable g tx.deltas → ((later : List Tx) → t ≡ Listed later → AllLoggable g later)
    → with_tx tx t ≡ Listed txs → AllLoggable g txs
listed_after g tx (Listed later) txs first each is = subst (λ (l : List Tx). AllLoggable g l) (ap list_in is) (first, each later refl)
listed_after g tx (BadRun tid place) txs first each is = absurd (false≢true (ap is_listed is))

listed_at : (g : Geometry) (run : Run) (tid place sectors : ℕ) (more : Unit {0} → Transactions) (txs : List Tx) → ((deltas : List Delta) → run ≡ Whole deltas → AreLoggable g deltas)
    → ((later : List Tx) → more tt ≡ Listed later → AllLoggable g later) → transactions_at run tid place sectors more ≡ Listed txs → AllLoggable g txs
listed_at g (Whole deltas) tid place sectors more txs first each is =
    listed_after g (record { tid = tid; first = place; sectors = sectors; deltas = deltas }) (more tt) txs (first deltas refl) each is
listed_at g Short tid place sectors more txs first each is = subst (λ (l : List Tx). AllLoggable g l) (ap list_in is) tt
listed_at g Bad tid place sectors more txs first each is = absurd (false≢true (ap is_listed is))

listed_from : (g : Geometry) (places : ℕ) (h : Header) (fuel tid at : ℕ) (ring : List (List ℕ)) (txs : List Tx) → transactions_from g places h fuel tid at ring ≡ Listed txs → AllLoggable g txs
unfolding transactions_from
listed_from g places h zero tid at ring txs is = subst (λ (l : List Tx). AllLoggable g l) (ap list_in is) tt
listed_from g places h (suc fuel) tid at ring txs is =
    let row = row_of h.epoch tid ring in
    listed_at g (run_of g tid (payload_of row)) tid ((h.head + at) % places) (length row)
    (λ _. transactions_from g places h fuel (tid + 1) (at + length row) (drop (length row) ring)) txs
    (λ deltas whole. whole_loggable g tid (payload_of row) deltas whole)
    (λ later rest. listed_from g places h fuel (tid + 1) (at + length row) (drop (length row) ring) later rest) is

pub listed_are_loggable : (g : Geometry) (image : Image) (h : Header) (txs : List Tx) → log_of g image ≡ WithHeader h (Listed txs) → AllLoggable g txs
listed_are_loggable g image h txs is = listed_from g (ring_of g) h (suc (ring_of g)) h.tid 0 _ txs (log_read g image h (Listed txs) is).1
