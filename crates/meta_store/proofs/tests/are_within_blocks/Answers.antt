use Rattle.std.proofs.Common.{List, sym, arith}
use Rattle.std.proofs.lemmas.List.{take_all}
use Rattle.std.proofs.lemmas.List.Elements.{All-same, All-more}
use Rattle.lufs_base.specs.declared.delta.Delta.{Delta}
use Rattle.meta_store.specs.Laid.{IsWithinBlock}
use Rattle.meta_store.proofs.tests.are_within_blocks.Goals as goal

pub loop-delta-preserved : goal.loop-delta-preserved
loop-delta-preserved c =
    let deltas : List Delta = c.args.deltas.now in
    let l = c.loop-delta in
    let d = c.delta-item.result in
    let its_own : IsWithinBlock d = c.is_within_block.ensures.0 c.if-not-is_within_block.false in
    All-more IsWithinBlock deltas l.delta-index d (omega arith) l.invariant (rw (sym c.delta-item.is) its_own)

pub returns : goal.returns
returns c =
    let deltas : List Delta = c.args.deltas.now in
    let l = c.loop-delta in
    λ always. All-same IsWithinBlock deltas _ (sym (take_all l.delta-index deltas (omega (arith, c.loop-delta-test.false)))) l.invariant
