use Rattle.std.proofs.Common.{◌≡◌, Some, Result, Ok, Err, sym, ◌∙◌, subst}
use Rattle.std.specs.Prelude.{IfSome, IfOk}
use Rattle.volume_model.specs.Format.{Image, geometry_of}
use Rattle.volume_model.specs.Log.{WithHeader, Listed, log_of}
use Rattle.log_scan.specs.Answers.{IsScan}
use Rattle.meta_store.specs.declared.error.StoreError.{StoreError}
use Rattle.lufs_top.specs.declared.check.CheckEnding.{CheckEnding}
use Rattle.lufs_top.specs.Check.{IsCheckOf, IsVerdictAfter, ended_by}
use Rattle.lufs_top.proofs.Content.{if_both}
use Rattle.lufs_top.proofs.CheckSteps.{error_found, checked_of}
use Rattle.lufs_top.proofs.check.check_volume.Goals as goal

pub returns-in-Err-clause-ended : goal.returns-in-Err-clause-ended
returns-in-Err-clause-ended g c =
    let old = (g.D.Disk.told c.args.disk).present in
    let now = (g.D.Disk.told c.read_geometry.new.disk).present in
    subst (λ (r : Result CheckEnding StoreError). IfSome old (λ image. IfOk r (IsCheckOf image))) (sym c.ended_by.ensures)
    (if_both (λ (i : Image). geometry_of i ≡ Some c.in-Ok.g) (λ (i : Image). IsScan (log_of c.in-Ok.g i) (Err c.in-Err.error)) (λ (i : Image). IfOk (ended_by c.in-Err.error) (IsCheckOf i)) now old
    c.in-Ok.ensures.unwritten.content
    (λ image geometry read. error_found c.in-Err.error image c.in-Ok.g geometry read)
    c.in-Ok.ensures.value c.in-Err.ensures.log)

pub returns-clause-ended : goal.returns-clause-ended
returns-clause-ended g c =
    let old = (g.D.Disk.told c.args.disk).present in
    let now = (g.D.Disk.told c.read_geometry.new.disk).present in
    let read = (g.D.Disk.told c.scan.new.disk).present in
    let h = c.in-Ok-scan.field-0-0 in
    let txs = c.in-Ok-scan.log in
    if_both (λ (i : Image). (geometry_of i ≡ Some c.in-Ok.g) × (log_of c.in-Ok.g i ≡ WithHeader h (Listed txs))) (λ (i : Image). IsVerdictAfter c.in-Ok.g txs i c.check_replayed-disk.result.1)
    (λ (i : Image). IfOk c.map.result (IsCheckOf i)) read old
    (c.in-Ok-scan.ensures.unwritten.content ∙ c.in-Ok.ensures.unwritten.content)
    (λ image known verdict. checked_of image c.in-Ok.g h txs c.check_replayed-disk.result.1 c.map.result known.0 known.1 verdict c.map.ensures.cases)
    (if_both (λ (i : Image). geometry_of i ≡ Some c.in-Ok.g) (λ (i : Image). IsScan (log_of c.in-Ok.g i) (Ok (h, txs)))
    (λ (i : Image). (geometry_of i ≡ Some c.in-Ok.g) × (log_of c.in-Ok.g i ≡ WithHeader h (Listed txs))) now old
    c.in-Ok.ensures.unwritten.content (λ image geometry log. (geometry, log)) c.in-Ok.ensures.value c.in-Ok-scan.ensures.log)
    c.check_replayed-disk.ensures.verdict
