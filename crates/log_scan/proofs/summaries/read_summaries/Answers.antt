use Rattle.std.proofs.Common.{◌≡◌, ◌+◌, ◌∷◌, ◌++◌, [], List, length, None, Ok, Option, IfSome, sym, ap, subst, ◌∙◌, arith}
use Rattle.std.proofs.lemmas.List.{length_push}
use Rattle.volume_model.specs.Format.{Image}
use Rattle.sector_disk.proofs.MadeCalls.{none_then}
use Rattle.log_scan.specs.Pieces.{Holds}
use Rattle.log_scan.specs.Summaries.{IsTxSummary}
use Rattle.log_scan.specs.declared.summary.TxSummary.{TxSummary}
use Rattle.log_scan.proofs.RowsTold.{unwritten_then}
use Rattle.log_scan.proofs.TxTold.{rest_at}
use Rattle.log_scan.proofs.SummariesTold.{summed_more_told, summed_all_told}
use Rattle.log_scan.proofs.summaries.read_summaries.Goals as goal

pub returns-in_default-clause-log : goal.returns-in_default-clause-log
returns-in_default-clause-log g c =
    let k = c.args.g.now in
    let h = c.args.header.now in
    let l = c.loop-run in
    let none : c.in_ok-tx.field-0 ≡ None = cc in
    let ends = subst (λ (o : Option TxSummary). IfSome (g.D.Disk.told c.loop-run.disk).present (λ image. IsTxSummary k h l.tid l.at (rest_at k h l.at image) (Ok o))) none c.in_ok-tx.ensures.value in
    summed_all_told k h l.tid l.at l.txs (g.D.Disk.told c.args.disk.now).present (g.D.Disk.told c.loop-run.disk).present l.invariant.unwritten.content ends l.invariant.listed

pub loop-run-preserved : goal.loop-run-preserved
loop-run-preserved g c =
    let k = c.args.g.now in
    let h = c.args.header.now in
    let l = c.loop-run in
    let tx : TxSummary = c.in-Some.tx in
    let inside = rw c.in-Some.is at c.in_ok-tx.ensures.inside in
    let step = subst (λ (o : Option TxSummary). IfSome (g.D.Disk.told c.loop-run.disk).present (λ image. IsTxSummary k h l.tid l.at (rest_at k h l.at image) (Ok o))) c.in-Some.is c.in_ok-tx.ensures.value in
    let count : length c.push.new.self ≡ length l.txs + 1 = ap (λ (txs : List TxSummary). length txs) c.in_ok-push.ensures.ok ∙ length_push l.txs tx in
    record {
      inside = inside.1;
      few = omega (arith, count, inside.0, l.invariant.few);
      number = omega (arith, inside.2);
      held = subst (λ (p : Option Image). Holds k h.head p c.read_summary.new.piece) (sym c.in_ok-tx.ensures.unwritten.content) c.in_ok-tx.ensures.held;
      listed = summed_more_told k h l.tid l.at l.txs c.push.new.self tx (g.D.Disk.told c.args.disk.now).present (g.D.Disk.told c.loop-run.disk).present l.invariant.unwritten.content c.in_ok-push.ensures.ok
          (omega (arith, l.invariant.few, inside.0, inside.1)) step l.invariant.listed;
      unwritten = unwritten_then l.invariant.unwritten c.in_ok-tx.ensures.unwritten;
      none_failed = none_then l.invariant.none_failed (c.in_ok-tx.ensures.failure.none (λ p. cc));
    }
