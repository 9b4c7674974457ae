use Rattle.std.proofs.Common.{◌≡◌, Option, true, false, sym, subst, arith}
use Rattle.volume_model.specs.Format.{Image}
use Rattle.sector_disk.proofs.MadeCalls.{none_then}
use Rattle.log_scan.specs.Pieces.{Holds}
use Rattle.log_scan.proofs.RowsTold.{unwritten_then, row_more_told, row_ends_told}
use Rattle.log_scan.proofs.runs.extend_row.Goals as goal

pub loop-payload-preserved : goal.loop-payload-preserved
loop-payload-preserved g c =
    let present = (g.D.Disk.told c.args.disk.now).present in
    let now = (g.D.Disk.told c.loop-payload.disk).present in
    let h = c.args.header.now in
    let l = c.loop-payload in
    let yes_is : c.in_ok-goes_on.field-0 ≡ true = cc in
    let shown = c.in_ok-goes_on.ensures.shown yes_is in
    record {
      low = omega (arith, l.invariant.low);
      high = omega (arith, shown.0);
      number = λ _. shown.2;
      held = subst (λ (p : Option Image). Holds c.args.g.now h.head p c.goes_on.new.self) (sym c.in_ok-goes_on.ensures.unwritten.content) c.in_ok-goes_on.ensures.held;
      row = row_more_told c.args.g.now h.head h.epoch c.args.tid c.args.at l.i present now c.goes_on.new.self l.payload.items c.carried.result.now c.extend_from_slice.new.self.items c.in_ok-goes_on.field-0
          l.invariant.low shown.0 l.invariant.unwritten.content c.in_ok-goes_on.ensures.held shown.1 c.carried.ensures.value c.in_ok-extend_from_slice.ensures.items yes_is
          c.in_ok-goes_on.ensures.value l.invariant.row;
      unwritten = unwritten_then l.invariant.unwritten c.in_ok-goes_on.ensures.unwritten;
      none_failed = none_then l.invariant.none_failed c.in_ok-goes_on.ensures.failure;
    }

pub returns-clause-row : goal.returns-clause-row
returns-clause-row g c =
    let h = c.args.header.now in
    let l = c.loop-payload in
    let none : c.in_ok-goes_on.field-0 ≡ false = cc in
    row_ends_told c.args.g.now h.head h.epoch c.args.tid c.args.at l.i (g.D.Disk.told c.args.disk.now).present (g.D.Disk.told c.loop-payload.disk).present l.payload.items c.in_ok-goes_on.field-0
    l.invariant.unwritten.content none c.in_ok-goes_on.ensures.value l.invariant.row
