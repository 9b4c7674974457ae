use Rattle.std.proofs.Common.{◌≡◌, ℕ, Bool, sym, ap, arith}
use Rattle.volume_laws.proofs.Counting.{one_if}
use Rattle.block_alloc.specs.Records.{may_give}
use Rattle.block_alloc.proofs.Ranges.{count_more}
use Rattle.block_alloc.proofs.choice.count_released.Goals as goal
use Rattle.block_alloc.proofs.choice.count_released.Goals.{then-may_give, else-may_give}

pub loop-b-preserved : goal.loop-b-preserved
loop-b-preserved g c =
    let test : ℕ → Bool = may_give (g.S.MetaRead.store c.args.store.now).geometry c.args.records.now (g.S.MetaRead.changing c.args.store.now).is_released in
    let next = count_more test c.loop-b.b in
    elim c.if-may_give.branch [
      | then-may_give w ↦
          let one : one_if (test c.loop-b.b) ≡ 1 = ap one_if (sym w.if-may_give.ensures) in
          record { value = omega (arith, next, one, w.count-is, c.loop-b.invariant.value); most = omega (arith, w.count-is, c.loop-b.invariant.most) }
      | else-may_give w ↦
          let none : one_if (test c.loop-b.b) ≡ 0 = ap one_if (sym w.if-may_give.ensures) in
          record { value = omega (arith, next, none, w.count-is, c.loop-b.invariant.value); most = omega (arith, w.count-is, c.loop-b.invariant.most) }
    ]
