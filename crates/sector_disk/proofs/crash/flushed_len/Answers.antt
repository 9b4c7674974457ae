use Rattle.std.proofs.Common.{arith, ◌≡◌, ◌<◌, ◌+◌, take, drop, length, sym, ◌∙◌, subst, ℕ}
use Rattle.volume_model.specs.Crash.{flushed, pending}
use Rattle.sector_disk.proofs.CrashSteps.{at_flush, at_write}
use Rattle.sector_disk.proofs.crash.flushed_len.Goals as goal
use Rattle.sector_disk.proofs.crash.flushed_len.Goals.{in-Flush, in-Write}

pub loop-call-preserved : goal.loop-call-preserved
loop-call-preserved c =
    let l = c.loop-call in
    let calls = c.args.calls.now in
    let below : l.call-index < length calls = c.loop-call-test.true in
    elim c.match-call.branch [
      | in-Flush w ↦ let h = at_flush calls l.call-index c.call-item.result below (sym c.call-item.is ∙ w.in-Flush.is) in
          let end : c.match-call.end ≡ l.call-index + 1 = omega (arith, w.end-is, l.invariant.seen) in
          record {
            seen = omega (arith, l.invariant.seen);
            within = omega (arith, end);
            flushed = subst (λ (n : ℕ). take n calls ≡ flushed (take (l.call-index + 1) calls)) (sym end) h.0;
            pending = subst (λ (n : ℕ). drop n (take (l.call-index + 1) calls) ≡ pending (take (l.call-index + 1) calls)) (sym end) h.1;
          }
      | in-Write w ↦ let h = at_write calls l.call-index l.end c.call-item.result w.in-Write.first w.in-Write.bytes below (sym c.call-item.is ∙ w.in-Write.is) l.invariant.within l.invariant.flushed l.invariant.pending in
          record {
            seen = omega (arith, l.invariant.seen);
            within = omega (arith, w.end-is, l.invariant.within);
            flushed = subst (λ (n : ℕ). take n calls ≡ flushed (take (l.call-index + 1) calls)) (sym w.end-is) h.0;
            pending = subst (λ (n : ℕ). drop n (take (l.call-index + 1) calls) ≡ pending (take (l.call-index + 1) calls)) (sym w.end-is) h.1;
          }
    ]
