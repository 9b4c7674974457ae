use Rattle.std.proofs.Common.{◌≡◌, ℕ, List, Some, Result, Ok, Err, sym, ◌∙◌, ap, subst}
use Rattle.std.specs.Prelude.{IfSome, IfOk}
use Rattle.volume_model.specs.Format.{Image, geometry_of}
use Rattle.volume_model.specs.Log.{log_of}
use Rattle.log_scan.specs.Summaries.{IsList}
use Rattle.lufs_top.specs.declared.scan.ScanEnding.TheVariants.{Listed}
use Rattle.lufs_top.specs.declared.scan.ScanEnding.{ScanEnding}
use Rattle.lufs_top.specs.declared.scan.Stop.{Stop}
use Rattle.lufs_top.specs.Scan.{IsScanOf, ended_by}
use Rattle.lufs_top.proofs.Content.{if_both, if_any, error_found}
use Rattle.lufs_top.proofs.ListingText.{summed_listing}
use Rattle.lufs_top.proofs.scan.scan_volume.Goals as goal

pub returns-in-Ok-listing_text-clause-ended : goal.returns-in-Ok-listing_text-clause-ended
returns-in-Ok-listing_text-clause-ended g c =
    let old = (g.D.Disk.told c.args.disk.now).present in
    let now = (g.D.Disk.told c.read_geometry.new.disk).present in
    if_both (λ (i : Image). geometry_of i ≡ Some c.in-Ok.g) (λ (i : Image). IsList (log_of c.in-Ok.g i) (Ok (c.in-Ok-list.header, c.in-Ok-list.txs))) (λ (i : Image). IsScanOf i (Listed c.in-Ok-listing_text.text)) now old
    c.in-Ok.ensures.unwritten.content
    (λ image geometry read. summed_listing image c.in-Ok.g c.in-Ok-list.header c.in-Ok-list.txs geometry read ∙ ap (λ (t : List ℕ). Some t) (sym c.in-Ok-listing_text.ensures))
    c.in-Ok.ensures.value c.in-Ok-list.ensures.log

pub returns-in-Ok-list-clause-ended : goal.returns-in-Ok-list-clause-ended
returns-in-Ok-list-clause-ended g c = if_any (g.D.Disk.told c.args.disk.now).present tt

pub returns-clause-ended : goal.returns-clause-ended
returns-clause-ended g c =
    let old = (g.D.Disk.told c.args.disk.now).present in
    let now = (g.D.Disk.told c.read_geometry.new.disk).present in
    subst (λ (r : Result ScanEnding Stop). IfSome old (λ image. IfOk r (IsScanOf image))) (sym c.ended_by.ensures)
    (if_both (λ (i : Image). geometry_of i ≡ Some c.in-Ok.g) (λ (i : Image). IsList (log_of c.in-Ok.g i) (Err c.in-Err.error)) (λ (i : Image). IfOk (ended_by c.in-Err.error) (IsScanOf i)) now old
    c.in-Ok.ensures.unwritten.content
    (λ image geometry read. error_found c.in-Err.error image c.in-Ok.g geometry read)
    c.in-Ok.ensures.value c.in-Err.ensures.log)
