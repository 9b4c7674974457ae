-- The log of an image that a disk tells, from its header and its ring.
use Rattle.std.proofs.Common.{◌≡◌, ℕ, suc, ◌/◌, List, length, Option, Some, None, Result, Ok, Err, IfSome, sym, ap, subst, ◌∙◌, arith}
use Rattle.lufs_base.specs.Layout.{ring_of, header_sector, ring_place}
use Rattle.lufs_base.specs.declared.geometry.Geometry.{Geometry}
use Rattle.volume_model.specs.declared.log.Header.{Header}
use Rattle.volume_model.specs.declared.log.Tx.{Tx}
use Rattle.volume_model.specs.Format.{Image, sector, sectors_from, sectors_in}
use Rattle.volume_model.specs.Log.{header_of, Log, NoHeader, WithHeader, Transactions, transactions_from, ring_from, log_after, log_with, log_of}
use Rattle.log_scan.specs.Ring.{transactions_of}
use Rattle.log_scan.specs.Answers.{IsListing, IsScan}
use Rattle.log_scan.specs.declared.log.ScanError.{ScanError}
use Rattle.log_scan.specs.declared.log.ScanError.TheVariants.{Disk, BadHeader, BadLog, Mem}

-- the log by what the header sector is
pub header_told : (g : Geometry) (present : Option Image) (first : ℕ) (s : List ℕ) (found : Option Header) → first ≡ header_sector g → length s ≡ 512
    → IfSome present (λ image. s ≡ sectors_from image first (length s / 512)) → found ≡ header_of g s
    → IfSome present (λ image. log_of g image ≡ log_after g (λ place. sector image (ring_place g place)) found)
unfolding log_with
header_told g None first s found place size is found_is = tt
header_told g (Some image) first s found place size is found_is =
    let one : length s / 512 ≡ 1 = omega arith in
    let same : s ≡ sector image (header_sector g) = is ∙ ap (λ (n : ℕ). sectors_from image first n) one ∙ ap (λ (k : ℕ). sector image k) place in
    ap (λ (o : Option Header). log_after g (λ place. sector image (ring_place g place)) o) (sym (found_is ∙ ap (λ (l : List ℕ). header_of g l) same))

pub no_header_told : (g : Geometry) (present : Option Image) → IfSome present (λ image. log_of g image ≡ NoHeader)
    → IfSome present (λ image. IsScan (log_of g image) (Err BadHeader))
no_header_told g None told = tt
no_header_told g (Some image) told = told

-- the answer of a scan with this header and this listing
abbrev pub with_header : Header → Result (List Tx) ScanError → Result (Header × List Tx) ScanError
with_header h (Ok txs) = Ok (h, txs)
with_header h (Err e) = Err e

listing_is_scan : (g : Geometry) (h : Header) (log : Log) (listing : Transactions) (result : Result (List Tx) ScanError) → log ≡ WithHeader h listing
    → IsListing listing result → IsScan log (with_header h result)
listing_is_scan g h log listing (Ok txs) is told = is ∙ ap (λ (t : Transactions). WithHeader h t) told
listing_is_scan g h log listing (Err Disk) is told = tt
listing_is_scan g h log listing (Err BadHeader) is told = absurd told
listing_is_scan g h log listing (Err (BadLog tid place)) is told = (h, is ∙ ap (λ (t : Transactions). WithHeader h t) told)
listing_is_scan g h log listing (Err Mem) is told = tt

pub listing_told : (g : Geometry) (h : Header) (present now : Option Image) (result : Result (List Tx) ScanError)
    → IfSome present (λ image. log_of g image ≡ log_after g (λ place. sector image (ring_place g place)) (Some h))
    → now ≡ present → IfSome now (λ image. IsListing (transactions_of g h image) result)
    → IfSome present (λ image. IsScan (log_of g image) (with_header h result))
listing_told g h None now result header same told = tt
listing_told g h (Some image) now result header same told =
    listing_is_scan g h (log_of g image) (transactions_of g h image) result header
    (subst (λ (o : Option Image). IfSome o (λ image. IsListing (transactions_of g h image) result)) same told)

-- the listing of a ring that was read from the image
pub ring_told : (g : Geometry) (h : Header) (present : Option Image) (bytes : List ℕ) (result : Result (List Tx) ScanError)
    → IfSome present (λ image. sectors_in bytes ≡ ring_from (ring_of g) h.head (λ place. sector image (ring_place g place)))
    → IsListing (transactions_from g (ring_of g) h (suc (ring_of g)) h.tid 0 (sectors_in bytes)) result
    → IfSome present (λ image. IsListing (transactions_of g h image) result)
ring_told g h None bytes result ring told = tt
ring_told g h (Some image) bytes result ring told =
    subst (λ (l : List (List ℕ)). IsListing (transactions_from g (ring_of g) h (suc (ring_of g)) h.tid 0 l) result) ring told
