use Rattle.std.proofs.Common.{◌≡◌, length, Some, None, Result, Err, IfSome, sym, ap, subst, ◌∙◌, arith}
use Rattle.std.proofs.lemmas.Result.{err_from_is_err_and}
use Rattle.volume_model.specs.declared.log.Header.{Header}
use Rattle.log_scan.specs.Answers.{IsHeaderAnswer}
use Rattle.log_scan.specs.declared.log.ScanError.{ScanError}
use Rattle.log_scan.proofs.LogTold.{header_told}
use Rattle.log_scan.proofs.log.read_log_header.Goals as goal

pub returns-in_err-read_header-clause-value : goal.returns-in_err-read_header-clause-value
returns-in_err-read_header-clause-value g c =
    let present = (g.D.Disk.told c.args.disk.now).present in
    let size : length c.read.new.out ≡ 512 = omega (arith, c.read.auto.out) in
    let p = err_from_is_err_and c.from_residual-in_err-read_header.result c.from_residual-in_err-read_header.ensures.1 in
    let header = header_told c.args.g.now present c.header_sector.result c.read.new.out None c.header_sector.ensures size c.in_ok-read.ensures.bytes c.in_err-read_header.ensures.value in
    subst (λ (r : Result Header ScanError). IfSome (g.D.Disk.told c.args.disk.now).present (λ image. IsHeaderAnswer c.args.g.now image r))
    (sym (p.1 ∙ ap (λ (e : ScanError). Err e) p.2)) header

pub returns-clause-value : goal.returns-clause-value
returns-clause-value g c =
    let present = (g.D.Disk.told c.args.disk.now).present in
    let size : length c.read.new.out ≡ 512 = omega (arith, c.read.auto.out) in
    header_told c.args.g.now present c.header_sector.result c.read.new.out (Some c.in_ok-read_header.field-0) c.header_sector.ensures size c.in_ok-read.ensures.bytes c.in_ok-read_header.ensures.value
