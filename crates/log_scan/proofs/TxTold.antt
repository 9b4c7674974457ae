-- The transactions of the log of an image that a disk tells, one after the other.
use Rattle.std.proofs.Common.{◌≡◌, ℕ, suc, ◌+◌, ◌-◌, ◌*◌, ◌%◌, ◌<◌, List, [], ◌∷◌, ◌++◌, length, take, drop, Option, Some, None, IfSome, Ok, Err, sym, ap, subst, ◌∙◌, arith}
use Rattle.std.proofs.lemmas.List.{append-nil}
use Rattle.lufs_base.specs.Layout.{ring_of}
use Rattle.lufs_base.specs.declared.geometry.Geometry.{Geometry}
use Rattle.lufs_base.specs.declared.delta.Delta.{Delta}
use Rattle.volume_model.specs.declared.log.Header.{Header}
use Rattle.volume_model.specs.declared.log.Tx.{Tx}
use Rattle.volume_model.specs.Format.{Image}
use Rattle.volume_model.specs.Log.{Whole, Short, Bad, run_of, payload_of, Transactions, Listed, BadRun, with_tx, transactions_at, transactions_from}
use Rattle.log_scan.specs.declared.log.ScanError.{ScanError}
use Rattle.log_scan.specs.declared.log.ScanError.TheVariants.{Disk, BadHeader, BadLog, Mem}
use Rattle.log_scan.specs.Ring.{ring_in, transactions_of}
use Rattle.log_scan.specs.Answers.{IsRow, IsTx, IsStop}
use Rattle.log_scan.proofs.Listing.{by_run, empty_is_short, with_front, with_front-nil, listing_more}

-- what stands in the ring from sector `at` on
abbrev pub rest_at : Geometry → Header → (at : ℕ) → Image → List (List ℕ)
rest_at g h at image = drop at (ring_in g h.head image)

-- a stop says nothing
pub stop_told : (g : Geometry) (h : Header) (tid at : ℕ) (present : Option Image) (error : ScanError) → IsStop error → IfSome present (λ image. IsTx g h tid at (rest_at g h at image) (Err error))
stop_told g h tid at None error is = tt
stop_told g h tid at (Some image) Disk is = tt
stop_told g h tid at (Some image) BadHeader is = absurd is
stop_told g h tid at (Some image) (BadLog bad place) is = absurd is
stop_told g h tid at (Some image) Mem is = tt

-- no sector is no transaction
pub none_told : (g : Geometry) (h : Header) (tid at sectors : ℕ) (present : Option Image) (payload : List ℕ) → sectors ≡ 0
    → IfSome present (λ image. IsRow h.epoch tid (rest_at g h at image) sectors payload) → IfSome present (λ image. IsTx g h tid at (rest_at g h at image) (Ok None))
none_told g h tid at sectors None payload zero row = tt
none_told g h tid at sectors (Some image) payload zero row =
    let nothing : payload ≡ [] = row.1 ∙ ap (λ (n : ℕ). payload_of (take n (rest_at g h at image))) zero in
    let short : run_of g tid payload ≡ Short = ap (λ (l : List ℕ). run_of g tid l) nothing ∙ empty_is_short g tid in
    λ more. by_run g h tid at sectors more (rest_at g h at image) payload Short row.0 row.1 short

pub whole_told : (g : Geometry) (h : Header) (tid at sectors place : ℕ) (present : Option Image) (payload : List ℕ) (deltas : List Delta) → place ≡ (h.head + at) % ring_of g → run_of g tid payload ≡ Whole deltas
    → IfSome present (λ image. IsRow h.epoch tid (rest_at g h at image) sectors payload)
    → IfSome present (λ image. IsTx g h tid at (rest_at g h at image) (Ok (Some (record { tid = tid; first = place; sectors = sectors; deltas = deltas }))))
whole_told g h tid at sectors place None payload deltas place_is run row = tt
whole_told g h tid at sectors place (Some image) payload deltas place_is run row =
    λ more.
    by_run g h tid at sectors more (rest_at g h at image) payload (Whole deltas) row.0 row.1 run
    ∙ ap (λ (n : ℕ). with_tx (record { tid = tid; first = n; sectors = sectors; deltas = deltas })
    (transactions_from g (ring_of g) h more (tid + 1) (at + sectors) (drop sectors (rest_at g h at image)))) (sym place_is)

pub short_told : (g : Geometry) (h : Header) (tid at sectors : ℕ) (present : Option Image) (payload : List ℕ) → run_of g tid payload ≡ Short
    → IfSome present (λ image. IsRow h.epoch tid (rest_at g h at image) sectors payload) → IfSome present (λ image. IsTx g h tid at (rest_at g h at image) (Ok None))
short_told g h tid at sectors None payload run row = tt
short_told g h tid at sectors (Some image) payload run row = λ more. by_run g h tid at sectors more (rest_at g h at image) payload Short row.0 row.1 run

pub bad_told : (g : Geometry) (h : Header) (tid at sectors place : ℕ) (present : Option Image) (payload : List ℕ) → place ≡ (h.head + at) % ring_of g → run_of g tid payload ≡ Bad
    → IfSome present (λ image. IsRow h.epoch tid (rest_at g h at image) sectors payload) → IfSome present (λ image. IsTx g h tid at (rest_at g h at image) (Err (BadLog tid place)))
bad_told g h tid at sectors place None payload place_is run row = tt
bad_told g h tid at sectors place (Some image) payload place_is run row =
    λ more. by_run g h tid at sectors more (rest_at g h at image) payload Bad row.0 row.1 run ∙ ap (λ (n : ℕ). BadRun tid n) (sym place_is)

-- the transactions so far, and those after them, are the log's
abbrev pub IsListedTo : Geometry → Header → (tid at : ℕ) → List Tx → Image → Type 0
IsListedTo g h tid at txs image =
    with_front txs (transactions_from g (ring_of g) h (suc (ring_of g - length txs)) tid at (rest_at g h at image)) ≡ transactions_of g h image

pub listed_none : (g : Geometry) (h : Header) (txs : List Tx) (image : Image) → txs ≡ [] → IsListedTo g h h.tid 0 txs image
listed_none g h txs image none =
    let from : ℕ → Transactions = λ n. transactions_from g (ring_of g) h (suc n) h.tid 0 (ring_in g h.head image) in
    let zero : ring_of g - 0 ≡ ring_of g = omega arith in
    subst (λ (l : List Tx). IsListedTo g h h.tid 0 l image) (sym none) (with_front-nil (from (ring_of g - 0)) ∙ ap from zero)

pub listed_none_told : (g : Geometry) (h : Header) (txs : List Tx) (present : Option Image) → txs ≡ [] → IfSome present (λ image. IsListedTo g h h.tid 0 txs image)
listed_none_told g h txs None none = tt
listed_none_told g h txs (Some image) none = listed_none g h txs image none

listed_more : (g : Geometry) (h : Header) (tid at : ℕ) (txs more : List Tx) (tx : Tx) (image : Image) → more ≡ txs ++ tx ∷ [] → length txs < ring_of g
    → IsTx g h tid at (rest_at g h at image) (Ok (Some tx)) → IsListedTo g h tid at txs image → IsListedTo g h (tid + 1) (at + tx.sectors) more image
listed_more g h tid at txs more tx image pushed room step so_far = listing_more g h tid at tx.sectors txs more tx (ring_in g h.head image) (transactions_of g h image) step pushed room so_far

pub listed_more_told : (g : Geometry) (h : Header) (tid at : ℕ) (txs more : List Tx) (tx : Tx) (present now : Option Image) → now ≡ present → more ≡ txs ++ tx ∷ [] → length txs < ring_of g
    → IfSome now (λ image. IsTx g h tid at (rest_at g h at image) (Ok (Some tx))) → IfSome present (λ image. IsListedTo g h tid at txs image)
    → IfSome present (λ image. IsListedTo g h (tid + 1) (at + tx.sectors) more image)
listed_more_told g h tid at txs more tx None now same pushed room step so_far = tt
listed_more_told g h tid at txs more tx (Some image) now same pushed room step so_far =
    listed_more g h tid at txs more tx image pushed room
    (subst (λ (o : Option Image). IfSome o (λ image. IsTx g h tid at (rest_at g h at image) (Ok (Some tx)))) same step) so_far

-- the log ends after these
listed_all : (g : Geometry) (h : Header) (tid at : ℕ) (txs : List Tx) (image : Image) → IsTx g h tid at (rest_at g h at image) (Ok None) → IsListedTo g h tid at txs image
    → transactions_of g h image ≡ Listed txs
listed_all g h tid at txs image ends so_far =
    sym so_far ∙ ap (λ (t : Transactions). with_front txs t) (ends (ring_of g - length txs)) ∙ ap (λ (l : List Tx). Listed l) (append-nil txs)

pub listed_all_told : (g : Geometry) (h : Header) (tid at : ℕ) (txs : List Tx) (present now : Option Image) → now ≡ present
    → IfSome now (λ image. IsTx g h tid at (rest_at g h at image) (Ok None)) → IfSome present (λ image. IsListedTo g h tid at txs image)
    → IfSome present (λ image. transactions_of g h image ≡ Listed txs)
listed_all_told g h tid at txs None now same ends so_far = tt
listed_all_told g h tid at txs (Some image) now same ends so_far =
    listed_all g h tid at txs image (subst (λ (o : Option Image). IfSome o (λ image. IsTx g h tid at (rest_at g h at image) (Ok None))) same ends) so_far

-- a bad run after these
listed_bad : (g : Geometry) (h : Header) (tid at bad place : ℕ) (txs : List Tx) (image : Image) → IsTx g h tid at (rest_at g h at image) (Err (BadLog bad place)) → IsListedTo g h tid at txs image
    → transactions_of g h image ≡ BadRun bad place
listed_bad g h tid at bad place txs image is so_far = sym so_far ∙ ap (λ (t : Transactions). with_front txs t) (is (ring_of g - length txs))

pub listed_bad_told : (g : Geometry) (h : Header) (tid at bad place : ℕ) (txs : List Tx) (present now : Option Image) → now ≡ present
    → IfSome now (λ image. IsTx g h tid at (rest_at g h at image) (Err (BadLog bad place))) → IfSome present (λ image. IsListedTo g h tid at txs image)
    → IfSome present (λ image. transactions_of g h image ≡ BadRun bad place)
listed_bad_told g h tid at bad place txs None now same is so_far = tt
listed_bad_told g h tid at bad place txs (Some image) now same is so_far =
    listed_bad g h tid at bad place txs image (subst (λ (o : Option Image). IfSome o (λ image. IsTx g h tid at (rest_at g h at image) (Err (BadLog bad place)))) same is) so_far
