use Rattle.std.proofs.Common.{ℕ, List, Option, Result, Err, IfSome, sym, ap, subst, ◌∙◌}
use Rattle.std.proofs.lemmas.Result.{err_from_is_err_and}
use Rattle.volume_model.specs.declared.log.Tx.{Tx}
use Rattle.log_scan.specs.Answers.{IsRow, IsTx}
use Rattle.log_scan.specs.declared.log.ScanError.{ScanError}
use Rattle.log_scan.proofs.TxTold.{rest_at, stop_told, none_told, whole_told, short_told, bad_told}
use Rattle.log_scan.proofs.log.read_tx.Goals as goal

pub returns-in_err-sectors-clause-value : goal.returns-in_err-sectors-clause-value
returns-in_err-sectors-clause-value g c =
    let h = c.args.header.now in
    let p = err_from_is_err_and c.from_residual.result c.from_residual.ensures.1 in
    subst (λ (r : Result (Option Tx) ScanError). IfSome (g.D.Disk.told c.args.disk.now).present (λ image. IsTx c.args.g.now h c.args.tid c.args.at (rest_at c.args.g.now h c.args.at image) r))
    (sym (p.1 ∙ ap (λ (e : ScanError). Err e) p.2))
    (stop_told c.args.g.now h c.args.tid c.args.at (g.D.Disk.told c.args.disk.now).present c.in_err-sectors.field-0.0 c.in_err-sectors.ensures.stop)

pub returns-then-sectors-eq0-clause-value : goal.returns-then-sectors-eq0-clause-value
returns-then-sectors-eq0-clause-value g c =
    none_told c.args.g.now c.args.header.now c.args.tid c.args.at c.in_ok-sectors.sectors (g.D.Disk.told c.args.disk.now).present c.in_ok-sectors.payload.items c.if-sectors-eq0.true c.in_ok-sectors.ensures.row

pub returns-in-Ok-Whole-clause-value : goal.returns-in-Ok-Whole-clause-value
returns-in-Ok-Whole-clause-value g c =
    let h = c.args.header.now in
    let row = subst (λ (l : List ℕ). IfSome (g.D.Disk.told c.args.disk.now).present (λ image. IsRow h.epoch c.args.tid (rest_at c.args.g.now h c.args.at image) c.in_ok-sectors.sectors l))
    (sym c.deref.ensures.value) c.in_ok-sectors.ensures.row in
    whole_told c.args.g.now h c.args.tid c.args.at c.in_ok-sectors.sectors c.place_of.result (g.D.Disk.told c.args.disk.now).present c.deref.result.now c.in-Ok-Whole.deltas c.place_of.ensures
    (rw c.in-Ok-Whole.field-0-is at c.in-Ok-Whole.ensures) row

pub returns-in-Ok-Short-clause-value : goal.returns-in-Ok-Short-clause-value
returns-in-Ok-Short-clause-value g c =
    let h = c.args.header.now in
    let row = subst (λ (l : List ℕ). IfSome (g.D.Disk.told c.args.disk.now).present (λ image. IsRow h.epoch c.args.tid (rest_at c.args.g.now h c.args.at image) c.in_ok-sectors.sectors l))
    (sym c.deref.ensures.value) c.in_ok-sectors.ensures.row in
    short_told c.args.g.now h c.args.tid c.args.at c.in_ok-sectors.sectors (g.D.Disk.told c.args.disk.now).present c.deref.result.now (rw c.in-Ok-Short.field-0-is at c.in-Ok-Short.ensures) row

pub returns-in-Err-Bad-clause-value : goal.returns-in-Err-Bad-clause-value
returns-in-Err-Bad-clause-value g c =
    let h = c.args.header.now in
    let row = subst (λ (l : List ℕ). IfSome (g.D.Disk.told c.args.disk.now).present (λ image. IsRow h.epoch c.args.tid (rest_at c.args.g.now h c.args.at image) c.in_ok-sectors.sectors l))
    (sym c.deref.ensures.value) c.in_ok-sectors.ensures.row in
    bad_told c.args.g.now h c.args.tid c.args.at c.in_ok-sectors.sectors c.place_of-in-Err-Bad.result (g.D.Disk.told c.args.disk.now).present c.deref.result.now c.place_of-in-Err-Bad.ensures
    (rw c.in-Err-Bad.field-0-is at c.in-Err-Bad.ensures) row
