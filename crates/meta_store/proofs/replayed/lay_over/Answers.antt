use Rattle.std.proofs.Common.{◌≡◌, ◌≤◌, ◌+◌, ◌-◌, ◌*◌, ℕ, List, length, take, drop, refl, ap, ◌∙◌, arith}
use Rattle.lufs_base.specs.declared.delta.Delta.{Delta}
use Rattle.meta_store.specs.Laid.{laid_block}
use Rattle.meta_store.proofs.BlockRows.{none_laid, one_laid}
use Rattle.meta_store.proofs.replayed.lay_over.Goals as goal

pub loop-k-init : goal.loop-k-init
loop-k-init c = none_laid c.args.laid.now c.args.first.0 c.args.blocks.now

pub loop-k-preserved : goal.loop-k-preserved
loop-k-preserved c =
    let l = c.loop-k in
    let at = 4096 * l.k in
    let count : at + 4096 - at ≡ 4096 = omega arith in
    let inside : at + 4096 ≤ length c.args.blocks.now = omega (arith, c.loop-k-test.true, l.auto.k-end, l.invariant.size) in
    let part : List ℕ = take (at + 4096 - at) (drop at l.blocks) in
    one_laid c.args.laid.now c.args.first.0 l.k (at + 4096 - at) c.args.blocks.now l.blocks part c.lay.new.block l.invariant inside count refl
    (c.lay.ensures ∙ ap (λ (deltas : List Delta). laid_block deltas part) c.of_block-deltas.ensures)
