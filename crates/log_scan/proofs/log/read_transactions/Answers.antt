use Rattle.std.proofs.Common.{◌≡◌, ◌+◌, ◌∷◌, ◌++◌, [], List, length, Some, Ok, Option, IfSome, sym, ap, subst, ◌∙◌, arith}
use Rattle.std.proofs.lemmas.List.{length_push}
use Rattle.volume_model.specs.declared.log.Tx.{Tx}
use Rattle.volume_model.specs.Format.{Image}
use Rattle.sector_disk.proofs.MadeCalls.{none_then}
use Rattle.log_scan.specs.Pieces.{Holds}
use Rattle.log_scan.specs.Answers.{IsTx}
use Rattle.log_scan.proofs.RowsTold.{unwritten_then}
use Rattle.log_scan.proofs.TxTold.{rest_at, listed_more_told}
use Rattle.log_scan.proofs.log.read_transactions.Goals as goal

pub loop-txs-preserved : goal.loop-txs-preserved
loop-txs-preserved g c =
    let present = (g.D.Disk.told c.args.disk.now).present in
    let now = (g.D.Disk.told c.loop-txs.disk).present in
    let k = c.args.g.now in
    let h = c.args.header.now in
    let l = c.loop-txs in
    let tx : Tx = c.in-Some.tx in
    let inside = rw c.in-Some.is at c.in_ok-tx.ensures.inside in
    let step = subst (λ (o : Option Tx). IfSome (g.D.Disk.told c.loop-txs.disk).present (λ image. IsTx k h l.tid l.at (rest_at k h l.at image) (Ok o))) c.in-Some.is c.in_ok-tx.ensures.value in
    let count : length c.push.new.self ≡ length l.txs + 1 = ap (λ (txs : List Tx). length txs) c.in_ok-push.ensures.ok ∙ length_push l.txs tx in
    record {
      inside = inside.1;
      few = omega (arith, count, inside.0, l.invariant.few);
      number = omega (arith, inside.2);
      held = subst (λ (p : Option Image). Holds k h.head p c.read_tx.new.piece) (sym c.in_ok-tx.ensures.unwritten.content) c.in_ok-tx.ensures.held;
      listed = listed_more_told k h l.tid l.at l.txs c.push.new.self tx present now l.invariant.unwritten.content c.in_ok-push.ensures.ok
          (omega (arith, l.invariant.few, inside.0, inside.1)) step l.invariant.listed;
      unwritten = unwritten_then l.invariant.unwritten c.in_ok-tx.ensures.unwritten;
      none_failed = none_then l.invariant.none_failed (c.in_ok-tx.ensures.failure.none (λ p. cc));
    }
