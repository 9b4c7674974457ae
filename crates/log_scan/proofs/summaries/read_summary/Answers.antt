use Rattle.std.proofs.Common.{◌≡◌, ◌+◌, ◌-◌, ◌*◌, Option, Some, None, true, false, Err, refl, sym, ap, subst, ◌∙◌, arith}
use Rattle.volume_model.specs.Format.{Image}
use Rattle.volume_model.specs.Log.{run_of}
use Rattle.sector_disk.proofs.MadeCalls.{none_then}
use Rattle.log_format.specs.RunReading.{IsTotal}
use Rattle.log_format.specs.declared.records.RunError.{RunError}
use Rattle.log_format.specs.declared.run_reader.Tally.{Tally}
use Rattle.log_scan.specs.Pieces.{Holds}
use Rattle.log_scan.proofs.RowsTold.{unwritten_then}
use Rattle.log_scan.proofs.SummariesTold.{Shown, read_more_told, read_bad_told, read_ends_told, no_sector_told, no_total_told, summary_told}
use Rattle.log_scan.proofs.summaries.read_summary.Goals as goal

pub loop-run-preserved : goal.loop-run-preserved
loop-run-preserved g c =
    let present = (g.D.Disk.told c.args.disk.now).present in
    let now = (g.D.Disk.told c.loop-run.disk).present in
    let k = c.args.g.now in
    let h = c.args.header.now in
    let l = c.loop-run in
    let is : c.in_ok-goes_on.field-0 ≡ true = cc in
    let found = c.in_ok-goes_on.ensures.shown is in
    let shown : Shown k h c.args.tid c.args.at l.i present now c.goes_on.new.self c.carried.result.now c.in_ok-goes_on.field-0 = record {
      low = l.invariant.low;
      inside = found.0;
      same = l.invariant.unwritten.content;
      held = c.in_ok-goes_on.ensures.held;
      shows = found.1;
      from = c.carried.ensures.value;
      is = is;
      told = c.in_ok-goes_on.ensures.value;
    } in
    record {
      low = omega (arith, l.invariant.low);
      high = omega (arith, found.0);
      number = λ _. found.2;
      held = subst (λ (p : Option Image). Holds k h.head p c.goes_on.new.self) (sym c.in_ok-goes_on.ensures.unwritten.content) c.in_ok-goes_on.ensures.held;
      run_tid = c.in-Ok.ensures.read.tid ∙ l.invariant.run_tid;
      counted = c.in-Ok.ensures.counted;
      count = omega (arith, c.in-Ok.ensures.read.count, l.invariant.count, l.invariant.low, c.carried.ensures.size);
      row = read_more_told k h c.args.tid c.args.at l.i present now c.goes_on.new.self c.carried.result.now c.in_ok-goes_on.field-0 l.run c.feed.new.self shown c.in-Ok.ensures.read.read l.invariant.row;
      unwritten = unwritten_then l.invariant.unwritten c.in_ok-goes_on.ensures.unwritten;
      none_failed = none_then l.invariant.none_failed c.in_ok-goes_on.ensures.failure;
    }

pub returns-in-Err-Bad-clause-value : goal.returns-in-Err-Bad-clause-value
returns-in-Err-Bad-clause-value g c =
    let present = (g.D.Disk.told c.args.disk.now).present in
    let now = (g.D.Disk.told c.loop-run.disk).present in
    let k = c.args.g.now in
    let h = c.args.header.now in
    let l = c.loop-run in
    let is : c.in_ok-goes_on.field-0 ≡ true = cc in
    let found = c.in_ok-goes_on.ensures.shown is in
    let shown : Shown k h c.args.tid c.args.at l.i present now c.goes_on.new.self c.carried.result.now c.in_ok-goes_on.field-0 = record {
      low = l.invariant.low;
      inside = found.0;
      same = l.invariant.unwritten.content;
      held = c.in_ok-goes_on.ensures.held;
      shows = found.1;
      from = c.carried.ensures.value;
      is = is;
      told = c.in_ok-goes_on.ensures.value;
    } in
    read_bad_told k h c.args.tid c.args.at l.i c.place_of.result present now c.goes_on.new.self c.carried.result.now c.in_ok-goes_on.field-0 l.run shown l.invariant.run_tid c.place_of.ensures
    (c.in-Err-Bad.ensures.bad (ap (λ (e : RunError). Err e) c.in-Err-Bad.field-0-is)) l.invariant.row

pub returns-then-i-at-clause-value : goal.returns-then-i-at-clause-value
returns-then-i-at-clause-value g c =
    let present = (g.D.Disk.told c.args.disk.now).present in
    let l = c.loop-run in
    let none : c.in_ok-goes_on.field-0 ≡ false = cc in
    no_sector_told c.args.g.now c.args.header.now c.args.tid c.args.at l.i present c.if-i-at.true
    (read_ends_told c.args.g.now c.args.header.now c.args.tid c.args.at l.i present (g.D.Disk.told c.loop-run.disk).present l.run c.in_ok-goes_on.field-0 l.invariant.unwritten.content none
    c.in_ok-goes_on.ensures.value l.invariant.row)

pub returns-in-None-clause-value : goal.returns-in-None-clause-value
returns-in-None-clause-value g c =
    let present = (g.D.Disk.told c.args.disk.now).present in
    let l = c.loop-run in
    let none : c.in_ok-goes_on.field-0 ≡ false = cc in
    no_total_told c.args.g.now c.args.header.now c.args.tid c.args.at l.i present l.run l.invariant.run_tid
    (λ k read has. subst (λ (o : Option Tally). IsTotal (run_of k c.loop-run.run.tid read) o) c.in-None.is (c.total.ensures k read has)) l.invariant.row
    (read_ends_told c.args.g.now c.args.header.now c.args.tid c.args.at l.i present (g.D.Disk.told c.loop-run.disk).present l.run c.in_ok-goes_on.field-0 l.invariant.unwritten.content none
    c.in_ok-goes_on.ensures.value l.invariant.row)

pub returns-in-Some-clause-value : goal.returns-in-Some-clause-value
returns-in-Some-clause-value g c =
    let present = (g.D.Disk.told c.args.disk.now).present in
    let l = c.loop-run in
    let none : c.in_ok-goes_on.field-0 ≡ false = cc in
    summary_told c.args.g.now c.args.header.now c.args.tid c.args.at l.i c.place_of-in-Some.result present l.run c.in-Some.tally
    (record { tid = c.args.tid; first = c.place_of-in-Some.result; sectors = l.i - c.args.at; deltas = c.in-Some.tally.deltas; bytes = c.in-Some.tally.bytes }) l.invariant.run_tid c.place_of-in-Some.ensures
    (λ k read has. subst (λ (o : Option Tally). IsTotal (run_of k c.loop-run.run.tid read) o) c.in-Some.is (c.total.ensures k read has)) refl l.invariant.row
    (read_ends_told c.args.g.now c.args.header.now c.args.tid c.args.at l.i present (g.D.Disk.told c.loop-run.disk).present l.run c.in_ok-goes_on.field-0 l.invariant.unwritten.content none
    c.in_ok-goes_on.ensures.value l.invariant.row)
