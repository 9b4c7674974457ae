-- What is printed of a log depends on the summaries of its transactions alone.
use Rattle.std.proofs.Common.{◌≡◌, ℕ, ◌+◌, List, [], ◌∷◌, ◌++◌, length, map, Some, codes, sym, ap, ◌∙◌}
use Rattle.std.specs.Prelude.{sum_by}
use Rattle.std.specs.List.{flat_map}
use Rattle.std.proofs.lemmas.List.{length-map}
use Rattle.std.proofs.lemmas.List.Folds.{flat_map-map, fold-map}
use Rattle.lufs_base.specs.declared.geometry.Geometry.{Geometry}
use Rattle.volume_model.specs.declared.log.Header.{Header}
use Rattle.volume_model.specs.declared.log.Tx.{Tx}
use Rattle.volume_model.specs.Format.{Image, geometry_of}
use Rattle.volume_model.specs.Log.{WithHeader, Listed, log_of}
use Rattle.volume_model.specs.Texts.{field, header_line, scan_text, scan_text_of}
use Rattle.log_scan.specs.declared.summary.TxSummary.{TxSummary}
use Rattle.log_scan.specs.Summaries.{summary_of}
use Rattle.lufs_top.specs.Listing.{summed_line, total_line, listing_text}
use Rattle.lufs_top.proofs.Content.{listing}

pub text_of_summaries : (g : Geometry) (h : Header) (txs : List Tx) → scan_text g h txs ≡ listing_text g h (map summary_of txs)
unfolding scan_text listing_text
text_of_summaries g h txs =
    let lines : List ℕ = flat_map (λ (tx : Tx). summed_line (summary_of tx)) txs in
    let sectors : ℕ = sum_by (λ (tx : Tx). tx.sectors) txs in
    ap (λ (n : ℕ). header_line g h ++ (lines ++ (field (codes "committed") n ++ (field (codes " sectors") sectors ++ (10 ∷ []))))) (sym (length-map txs summary_of))
    ∙ ap (λ (n : ℕ). header_line g h ++ (lines ++ (field (codes "committed") (length (map summary_of txs)) ++ (field (codes " sectors") n ++ (10 ∷ [])))))
    (sym (fold-map (λ (a : ℕ) (s : TxSummary). a + s.sectors) summary_of 0 txs))
    ∙ ap (λ (l : List ℕ). header_line g h ++ (l ++ total_line (map summary_of txs))) (sym (flat_map-map summed_line summary_of txs))

-- the text of a log that was listed is that of the image
pub summed_listing : (image : Image) (g : Geometry) (h : Header) (summaries : List TxSummary) → geometry_of image ≡ Some g
    → (txs : List Tx) × (log_of g image ≡ WithHeader h (Listed txs)) × (summaries ≡ map summary_of txs) → scan_text_of image ≡ Some (listing_text g h summaries)
summed_listing image g h summaries geometry read =
    listing image g h read.0 geometry read.1
    ∙ ap (λ (t : List ℕ). Some t) (text_of_summaries g h read.0 ∙ ap (λ (l : List TxSummary). listing_text g h l) (sym read.2))
