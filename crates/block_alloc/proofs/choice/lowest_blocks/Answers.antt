use Rattle.std.proofs.Common.{ℕ, Bool, sym, ◌∙◌, arith}
use Rattle.block_alloc.specs.Records.{may_give}
use Rattle.block_alloc.proofs.Ranges.{first_more, first_full, first_fails}
use Rattle.block_alloc.proofs.choice.lowest_blocks.Goals as goal
use Rattle.block_alloc.proofs.choice.lowest_blocks.Goals.{then-len-n+then-may_give+in_ok-push, else-len-n, else-len-n-via-then-len-n+else-may_give, else-len-n-via-else-len-n}

pub loop-b-preserved : goal.loop-b-preserved
loop-b-preserved g c =
    let test : ℕ → Bool = may_give (g.S.MetaRead.store c.args.store.now).geometry c.args.records.now (g.S.MetaRead.changing c.args.store.now).is_released in
    let n = c.args.n in
    let b = c.loop-b.b in
    let xs = c.loop-b.blocks in
    let is = c.loop-b.invariant in
    elim c.if-len-n.branch [
      | then-len-n+then-may_give+in_ok-push w ↦
          w.blocks-is ∙ w.in_ok-push.ensures.ok ∙ first_more test n b xs is (omega (arith, c.len.ensures, w.if-len-n.true)) (sym w.if-may_give.ensures)
      | else-len-n w ↦ elim w.else-len-n.branch [
        | else-len-n-via-then-len-n+else-may_give v ↦ w.blocks-is ∙ first_fails test n b xs is (sym v.if-may_give.ensures)
        | else-len-n-via-else-len-n v ↦ w.blocks-is ∙ first_full test n b xs is (omega (arith, c.len.ensures, v.if-len-n.false))
      ]
    ]
