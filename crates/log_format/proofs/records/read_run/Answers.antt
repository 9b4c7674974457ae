use Rattle.std.proofs.Common.{◌≡◌, ◌+◌, ◌-◌, ◌≤◌, ◌++◌, ◌∷◌, [], length, drop, sym, subst, ap, ◌∙◌, arith, length-drop}
use Rattle.std.proofs.lemmas.List.{length_push}
use Rattle.lufs_base.specs.declared.delta.Delta.{Delta}
use Rattle.volume_model.specs.Log.{logged_len, Commit, Cut, Wrong}
use Rattle.log_format.specs.InOrder.{InOrder}
use Rattle.log_format.specs.declared.records.Front.TheVariants.{Logged, Commit as the_commit, Cut as the_cut, Wrong as the_wrong}
use Rattle.log_format.proofs.Order.{InOrder-push}
use Rattle.log_format.proofs.RunSteps.{run_by_front, front_at, next_at, run_on}
use Rattle.log_format.proofs.records.read_run.Goals as goal

pub loop-deltas-preserved : goal.loop-deltas-preserved
loop-deltas-preserved c =
    let g = c.args.g.now in
    let payload = c.args.payload.now in
    let l = c.loop-deltas in
    let d : Delta = c.in-Logged.delta in
    let front = front_at g c.args.tid l.at c.as_slice.result.now l.deltas payload c.in_ok-delta.field-0 (Logged d) c.as_slice.ensures c.in-Logged.is c.in_ok-delta.ensures.value in
    let next = next_at g l.at c.as_slice.result.now l.deltas payload c.in_ok-delta.field-0 d c.as_slice.ensures c.in-Logged.is c.in_ok-delta.ensures.next in
    let pushed : c.push.new.self ≡ l.deltas ++ d ∷ [] = c.in_ok-push-in-Logged.ensures.ok in
    let size : 16 + c.logged_len.result ≡ 16 + logged_len d.kind d.len = ap (λ n. 16 + n) c.logged_len.ensures in
    let fits : l.at + (16 + c.logged_len.result) ≤ length payload = omega (arith, next.fits, size, length-drop l.at payload) in
    let count : length c.push.new.self ≡ length l.deltas + 1 = ap length pushed ∙ length_push l.deltas d in
    record {
      inside = fits;
      few = omega (arith, count);
      order = subst (λ deltas. InOrder g deltas) (sym pushed) (InOrder-push g l.deltas d l.invariant.order next.may next.follows);
      run = run_on g c.args.tid l.at (16 + c.logged_len.result) l.deltas c.push.new.self payload d front size pushed (omega (arith, fits)) ∙ l.invariant.run;
    }

pub returns-in-Commit : goal.returns-in-Commit
returns-in-Commit c =
    let l = c.loop-deltas in
    let front = front_at c.args.g.now c.args.tid l.at c.as_slice.result.now l.deltas c.args.payload.now c.in_ok-delta.field-0 the_commit c.as_slice.ensures c.in-Commit.is c.in_ok-delta.ensures.value in
    sym l.invariant.run ∙ run_by_front c.args.g.now c.args.tid (length c.args.payload.now - length l.deltas) l.deltas (drop l.at c.args.payload.now) Commit front

pub returns-in-Cut : goal.returns-in-Cut
returns-in-Cut c =
    let l = c.loop-deltas in
    let front = front_at c.args.g.now c.args.tid l.at c.as_slice.result.now l.deltas c.args.payload.now c.in_ok-delta.field-0 the_cut c.as_slice.ensures c.in-Cut.is c.in_ok-delta.ensures.value in
    sym l.invariant.run ∙ run_by_front c.args.g.now c.args.tid (length c.args.payload.now - length l.deltas) l.deltas (drop l.at c.args.payload.now) Cut front

pub returns-in-Wrong : goal.returns-in-Wrong
returns-in-Wrong c =
    let l = c.loop-deltas in
    let front = front_at c.args.g.now c.args.tid l.at c.as_slice.result.now l.deltas c.args.payload.now c.in_ok-delta.field-0 the_wrong c.as_slice.ensures c.in-Wrong.is c.in_ok-delta.ensures.value in
    sym l.invariant.run ∙ run_by_front c.args.g.now c.args.tid (length c.args.payload.now - length l.deltas) l.deltas (drop l.at c.args.payload.now) Wrong front
