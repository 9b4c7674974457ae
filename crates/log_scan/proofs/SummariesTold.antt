-- The transactions of the log of an image, each summed up by a reader of runs.
use Rattle.std.proofs.Common.{◌≡◌, ℕ, suc, ◌+◌, ◌-◌, ◌%◌, ◌<◌, ◌≤◌, Bool, true, false, ltb, ◌&&◌, List, [], ◌∷◌, ◌++◌, length, take, drop, get_or, map, Option, Some, None, IfSome, Ok, Err, refl, sym, ap, subst, ◌∙◌, arith}
use Rattle.std.specs.List.{prefix_len}
use Rattle.std.proofs.lemmas.List.{map-append, length-map}
use Rattle.lufs_base.specs.Layout.{ring_of}
use Rattle.lufs_base.specs.declared.geometry.Geometry.{Geometry}
use Rattle.lufs_base.specs.declared.delta.Delta.{Delta}
use Rattle.volume_model.specs.declared.log.Header.{Header}
use Rattle.volume_model.specs.declared.log.Tx.{Tx}
use Rattle.volume_model.specs.Format.{Image, sector}
use Rattle.volume_model.specs.Log.{delta_bytes, Run, Whole, Short, Bad, run_of, belongs_to, row_of, payload_of, Listed, BadRun, with_tx, transactions_from}
use Rattle.log_format.specs.RunReading.{HasRead, IsBadWith, IsTotal}
use Rattle.log_format.specs.declared.run_reader.RunReader.{RunReader}
use Rattle.log_format.specs.declared.run_reader.Tally.{Tally}
use Rattle.log_scan.specs.declared.ring.Piece.{Piece}
use Rattle.log_scan.specs.declared.summary.TxSummary.{TxSummary}
use Rattle.log_scan.specs.declared.log.ScanError.TheVariants.{BadLog}
use Rattle.log_scan.specs.Ring.{ring_in, transactions_of}
use Rattle.log_scan.specs.Pieces.{IsPieceOf, Holds, Shows}
use Rattle.log_scan.specs.Answers.{IsTx, IsRow}
use Rattle.log_scan.specs.Summaries.{summary_of, IsTxSummary, IsSummed}
use Rattle.log_scan.proofs.Listing.{by_run, empty_is_short}
use Rattle.log_scan.proofs.RingSteps.{length-row_of}
use Rattle.log_scan.proofs.Rows.{IsRowPart, carried_to, part_none, part_more, part_ends, carried_none, carried_more, row_begins}
use Rattle.log_scan.proofs.RowsTold.{length-ring_in, shown_in, both_true}
use Rattle.log_scan.proofs.TxTold.{rest_at, IsListedTo, listed_none, listed_more_told, listed_all_told, listed_bad_told}

-- the row so far, which the reader has read
abbrev pub IsReadTo : Geometry → (epoch tid at i : ℕ) → List (List ℕ) → RunReader → Type 0
IsReadTo g epoch tid at i ring run = IsRowPart epoch tid at i ring × HasRead g (carried_to at i ring) run

pub read_none_told : (g : Geometry) (h : Header) (tid at : ℕ) (present : Option Image) (run : RunReader) → ((g : Geometry) → HasRead g [] run)
    → IfSome present (λ image. IsReadTo g h.epoch tid at at (ring_in g h.head image) run)
read_none_told g h tid at None run has = tt
read_none_told g h tid at (Some image) run has =
    (part_none h.epoch tid at (ring_in g h.head image), subst (λ (l : List ℕ). HasRead g l run) (sym (carried_none at (ring_in g h.head image))) (has g))

-- what the code knows of sector i, which the piece shows
pub record Shown (g : Geometry) (h : Header) (tid at i : ℕ) (present now : Option Image) (piece : Piece) (carried : List ℕ) (test : Bool) : Type 0 where
  pub low : at ≤ i
  pub inside : i < ring_of g
  pub same : now ≡ present
  pub held : Holds g h.head now piece
  pub shows : Shows i piece
  pub from : carried ≡ take 504 (sector piece.bytes.items (i - piece.first))
  pub is : test ≡ true
  pub told : IfSome now (λ image. test ≡ (ltb i (ring_of g) && belongs_to h.epoch tid (get_or (ring_in g h.head image) i [])))

-- the sector is one of the row
shown_part : (g : Geometry) (h : Header) (tid at i : ℕ) (image : Image) (now : Option Image) (piece : Piece) (carried : List ℕ) (test : Bool) → Shown g h tid at i (Some image) now piece carried test
    → IsRowPart h.epoch tid at i (ring_in g h.head image) → IsRowPart h.epoch tid at (i + 1) (ring_in g h.head image) × (carried ≡ take 504 (get_or (ring_in g h.head image) i []))
shown_part g h tid at i image now piece carried test shown part =
    let ring = ring_in g h.head image in
    let below : i < length ring = omega (arith, shown.inside, length-ring_in g h.head image) in
    let is : IsPieceOf ring piece = subst (λ (o : Option Image). IfSome o (λ image. IsPieceOf (ring_in g h.head image) piece)) shown.same shown.held.sectors in
    let tested : test ≡ (ltb i (ring_of g) && belongs_to h.epoch tid (get_or ring i [])) =
    subst (λ (o : Option Image). IfSome o (λ image. test ≡ (ltb i (ring_of g) && belongs_to h.epoch tid (get_or (ring_in g h.head image) i [])))) shown.same shown.told in (
      part_more h.epoch tid at i ring shown.low below (both_true (ltb i (ring_of g)) (belongs_to h.epoch tid (get_or ring i [])) (sym shown.is ∙ tested)) part,
      shown.from ∙ ap (λ (l : List ℕ). take 504 l) (shown_in ring piece i is shown.shows),
    )

-- the reader has read the sector too
pub read_more_told : (g : Geometry) (h : Header) (tid at i : ℕ) (present now : Option Image) (piece : Piece) (carried : List ℕ) (test : Bool) (old new : RunReader) → Shown g h tid at i present now piece carried test
    → ((read : List ℕ) → HasRead g read old → HasRead g (read ++ carried) new)
    → IfSome present (λ image. IsReadTo g h.epoch tid at i (ring_in g h.head image) old) → IfSome present (λ image. IsReadTo g h.epoch tid at (i + 1) (ring_in g h.head image) new)
read_more_told g h tid at i None now piece carried test old new shown more so_far = tt
read_more_told g h tid at i (Some image) now piece carried test old new shown more so_far =
    let ring = ring_in g h.head image in
    let below : i < length ring = omega (arith, shown.inside, length-ring_in g h.head image) in
    let next = shown_part g h tid at i image now piece carried test shown so_far.0 in (
      next.0,
      subst (λ (l : List ℕ). HasRead g l new) (carried_more at i ring (carried_to at i ring) carried shown.low below next.1 refl) (more (carried_to at i ring) so_far.1),
    )

-- the sector makes the run bad
pub read_bad_told : (g : Geometry) (h : Header) (tid at i place : ℕ) (present now : Option Image) (piece : Piece) (carried : List ℕ) (test : Bool) (old : RunReader) → Shown g h tid at i present now piece carried test
    → old.tid ≡ tid → place ≡ (h.head + at) % ring_of g → IsBadWith g carried old
    → IfSome present (λ image. IsReadTo g h.epoch tid at i (ring_in g h.head image) old) → IfSome present (λ image. IsTx g h tid at (rest_at g h at image) (Err (BadLog tid place)))
read_bad_told g h tid at i place None now piece carried test old shown tid_is place_is bad so_far = tt
read_bad_told g h tid at i place (Some image) now piece carried test old shown tid_is place_is bad so_far =
    let ring = ring_in g h.head image in
    let below : i < length ring = omega (arith, shown.inside, length-ring_in g h.head image) in
    let next = shown_part g h tid at i image now piece carried test shown so_far.0 in
    let row : List (List ℕ) = row_of h.epoch tid (drop at ring) in
    let rest : List ℕ = payload_of (take (prefix_len (belongs_to h.epoch tid) (drop (i + 1) ring)) (drop (i + 1) ring)) in
    let low : at ≤ i + 1 = omega (arith, shown.low) in
    let joined : payload_of row ≡ (carried_to at i ring ++ carried) ++ rest =
    row_begins h.epoch tid at (i + 1) ring low next.0
    ∙ ap (λ (l : List ℕ). l ++ rest) (sym (carried_more at i ring (carried_to at i ring) carried shown.low below next.1 refl)) in
    let run : run_of g tid (payload_of row) ≡ Bad =
    ap (λ (l : List ℕ). run_of g tid l) joined
    ∙ ap (λ (n : ℕ). run_of g n ((carried_to at i ring ++ carried) ++ rest)) (sym tid_is)
    ∙ bad (carried_to at i ring) so_far.1 rest in
    let whole : payload_of row ≡ payload_of (take (length row) (drop at ring)) =
    ap (λ (n : ℕ). payload_of (take n (drop at ring))) (sym (length-row_of h.epoch tid (drop at ring))) in
    λ more. by_run g h tid at (length row) more (drop at ring) (payload_of row) Bad refl whole run ∙ ap (λ (n : ℕ). BadRun tid n) (sym place_is)

-- the row ends before sector i
pub read_ends_told : (g : Geometry) (h : Header) (tid at i : ℕ) (present now : Option Image) (run : RunReader) (test : Bool) → now ≡ present → test ≡ false
    → IfSome now (λ image. test ≡ (ltb i (ring_of g) && belongs_to h.epoch tid (get_or (ring_in g h.head image) i [])))
    → IfSome present (λ image. IsReadTo g h.epoch tid at i (ring_in g h.head image) run)
    → IfSome present (λ image. IsRow h.epoch tid (rest_at g h at image) (i - at) (carried_to at i (ring_in g h.head image)))
read_ends_told g h tid at i None now run test same none told so_far = tt
read_ends_told g h tid at i (Some image) now run test same none told so_far =
    let ring = ring_in g h.head image in
    let tested : test ≡ (ltb i (ring_of g) && belongs_to h.epoch tid (get_or ring i [])) =
    subst (λ (o : Option Image). IfSome o (λ image. test ≡ (ltb i (ring_of g) && belongs_to h.epoch tid (get_or (ring_in g h.head image) i [])))) same told in
    let ends : (ltb i (length ring) && belongs_to h.epoch tid (get_or ring i [])) ≡ false =
    ap (λ (n : ℕ). ltb i n && belongs_to h.epoch tid (get_or ring i [])) (length-ring_in g h.head image) ∙ sym tested ∙ none in
    (part_ends h.epoch tid at i ring ends so_far.0, refl)

-- a row of no sector is no transaction
pub no_sector_told : (g : Geometry) (h : Header) (tid at i : ℕ) (present : Option Image) → i ≡ at
    → IfSome present (λ image. IsRow h.epoch tid (rest_at g h at image) (i - at) (carried_to at i (ring_in g h.head image))) → IfSome present (λ image. IsTx g h tid at (rest_at g h at image) (Ok None))
no_sector_told g h tid at i None same row = tt
no_sector_told g h tid at i (Some image) same row =
    let ring = ring_in g h.head image in
    let nothing : carried_to at i ring ≡ [] = ap (λ (n : ℕ). carried_to at n ring) same ∙ carried_none at ring in
    let short : run_of g tid (carried_to at i ring) ≡ Short = ap (λ (l : List ℕ). run_of g tid l) nothing ∙ empty_is_short g tid in
    λ more. by_run g h tid at (i - at) more (rest_at g h at image) (carried_to at i ring) Short row.0 row.1 short

total_is : (g : Geometry) (h : Header) (tid at sectors place : ℕ) (rest : List (List ℕ)) (payload : List ℕ) (tally : Tally) (summary : TxSummary) → place ≡ (h.head + at) % ring_of g
    → IsRow h.epoch tid rest sectors payload → IsTotal (run_of g tid payload) (Some tally)
    → summary ≡ record { tid = tid; first = place; sectors = sectors; deltas = tally.deltas; bytes = tally.bytes } → IsTxSummary g h tid at rest (Ok (Some summary))
total_is g h tid at sectors place rest payload tally summary place_is row total summary_is = (
  record { tid = tid; first = place; sectors = sectors; deltas = total.0 },
  ap (λ (n : ℕ). record { tid = tid; first = place; sectors = sectors; deltas = n; bytes = delta_bytes total.0 }) (sym total.2)
      ∙ ap (λ (n : ℕ). record { tid = tid; first = place; sectors = sectors; deltas = tally.deltas; bytes = n }) (sym total.3)
      ∙ sym summary_is,
  λ more.
      by_run g h tid at sectors more rest payload (Whole total.0) row.0 row.1 total.1
      ∙ ap (λ (n : ℕ). with_tx (record { tid = tid; first = n; sectors = sectors; deltas = total.0 })
      (transactions_from g (ring_of g) h more (tid + 1) (at + sectors) (drop sectors rest))) (sym place_is),
)

pub summary_told : (g : Geometry) (h : Header) (tid at i place : ℕ) (present : Option Image) (run : RunReader) (tally : Tally) (summary : TxSummary) → run.tid ≡ tid → place ≡ (h.head + at) % ring_of g
    → ((g : Geometry) (read : List ℕ) → HasRead g read run → IsTotal (run_of g run.tid read) (Some tally))
    → summary ≡ record { tid = tid; first = place; sectors = i - at; deltas = tally.deltas; bytes = tally.bytes }
    → IfSome present (λ image. IsReadTo g h.epoch tid at i (ring_in g h.head image) run) → IfSome present (λ image. IsRow h.epoch tid (rest_at g h at image) (i - at) (carried_to at i (ring_in g h.head image)))
    → IfSome present (λ image. IsTxSummary g h tid at (rest_at g h at image) (Ok (Some summary)))
summary_told g h tid at i place None run tally summary tid_is place_is total summary_is so_far row = tt
summary_told g h tid at i place (Some image) run tally summary tid_is place_is total summary_is so_far row =
    let payload = carried_to at i (ring_in g h.head image) in
    total_is g h tid at (i - at) place (rest_at g h at image) payload tally summary place_is row
    (subst (λ (n : ℕ). IsTotal (run_of g n payload) (Some tally)) tid_is (total g payload so_far.1)) summary_is

pub no_total_told : (g : Geometry) (h : Header) (tid at i : ℕ) (present : Option Image) (run : RunReader) → run.tid ≡ tid
    → ((g : Geometry) (read : List ℕ) → HasRead g read run → run_of g run.tid read ≡ Short)
    → IfSome present (λ image. IsReadTo g h.epoch tid at i (ring_in g h.head image) run) → IfSome present (λ image. IsRow h.epoch tid (rest_at g h at image) (i - at) (carried_to at i (ring_in g h.head image)))
    → IfSome present (λ image. IsTx g h tid at (rest_at g h at image) (Ok None))
no_total_told g h tid at i None run tid_is short so_far row = tt
no_total_told g h tid at i (Some image) run tid_is short so_far row =
    let payload = carried_to at i (ring_in g h.head image) in
    let is : run_of g tid payload ≡ Short = ap (λ (n : ℕ). run_of g n payload) (sym tid_is) ∙ short g payload so_far.1 in
    λ more. by_run g h tid at (i - at) more (rest_at g h at image) payload Short row.0 row.1 is

-- the summaries so far are those of transactions of the log, and the others come after them
abbrev pub IsSummedTo : Geometry → Header → (tid at : ℕ) → List TxSummary → Image → Type 0
IsSummedTo g h tid at summaries image = (txs : List Tx) × (summaries ≡ map summary_of txs) × IsListedTo g h tid at txs image

length-summed : (txs : List Tx) (summaries : List TxSummary) → summaries ≡ map summary_of txs → length txs ≡ length summaries
length-summed txs summaries is = sym (ap length is ∙ length-map txs summary_of)

pub summed_none_told : (g : Geometry) (h : Header) (summaries : List TxSummary) (present : Option Image) → summaries ≡ [] → IfSome present (λ image. IsSummedTo g h h.tid 0 summaries image)
summed_none_told g h summaries None none = tt
summed_none_told g h summaries (Some image) none = ([], none, listed_none g h [] image refl)

pub summed_more_told : (g : Geometry) (h : Header) (tid at : ℕ) (summaries more : List TxSummary) (summary : TxSummary) (present now : Option Image) → now ≡ present → more ≡ summaries ++ summary ∷ []
    → length summaries < ring_of g
    → IfSome now (λ image. IsTxSummary g h tid at (rest_at g h at image) (Ok (Some summary))) → IfSome present (λ image. IsSummedTo g h tid at summaries image)
    → IfSome present (λ image. IsSummedTo g h (tid + 1) (at + summary.sectors) more image)
summed_more_told g h tid at summaries more summary None now same pushed room step so_far = tt
summed_more_told g h tid at summaries more summary (Some image) now same pushed room step so_far =
    let is : IsTxSummary g h tid at (rest_at g h at image) (Ok (Some summary)) =
    subst (λ (o : Option Image). IfSome o (λ image. IsTxSummary g h tid at (rest_at g h at image) (Ok (Some summary)))) same step in
    let tx : Tx = is.0 in
    let txs : List Tx = so_far.0 in
    let sectors : tx.sectors ≡ summary.sectors = ap (λ (s : TxSummary). s.sectors) is.1 in
    let few : length txs < ring_of g = omega (arith, length-summed txs summaries so_far.1, room) in (
      txs ++ tx ∷ [],
      pushed ∙ ap (λ (l : List TxSummary). l ++ summary ∷ []) so_far.1 ∙ ap (λ (s : TxSummary). map summary_of txs ++ s ∷ []) (sym is.1) ∙ sym (map-append summary_of txs (tx ∷ [])),
      subst (λ (n : ℕ). IsListedTo g h (tid + 1) (at + n) (txs ++ tx ∷ []) image) sectors
          (listed_more_told g h tid at txs (txs ++ tx ∷ []) tx (Some image) (Some image) refl refl few is.2 so_far.2),
    )

pub summed_all_told : (g : Geometry) (h : Header) (tid at : ℕ) (summaries : List TxSummary) (present now : Option Image) → now ≡ present
    → IfSome now (λ image. IsTx g h tid at (rest_at g h at image) (Ok None)) → IfSome present (λ image. IsSummedTo g h tid at summaries image)
    → IfSome present (λ image. IsSummed (transactions_of g h image) (Ok summaries))
summed_all_told g h tid at summaries None now same ends so_far = tt
summed_all_told g h tid at summaries (Some image) now same ends so_far =
    (so_far.0, listed_all_told g h tid at so_far.0 (Some image) now same ends so_far.2, so_far.1)

pub summed_bad_told : (g : Geometry) (h : Header) (tid at bad place : ℕ) (summaries : List TxSummary) (present now : Option Image) → now ≡ present
    → IfSome now (λ image. IsTx g h tid at (rest_at g h at image) (Err (BadLog bad place))) → IfSome present (λ image. IsSummedTo g h tid at summaries image)
    → IfSome present (λ image. transactions_of g h image ≡ BadRun bad place)
summed_bad_told g h tid at bad place summaries None now same is so_far = tt
summed_bad_told g h tid at bad place summaries (Some image) now same is so_far =
    listed_bad_told g h tid at bad place so_far.0 (Some image) now same is so_far.2
