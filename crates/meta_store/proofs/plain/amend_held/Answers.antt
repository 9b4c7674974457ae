use Rattle.std.proofs.Common.{List}
use Rattle.lufs_base.specs.declared.delta.Delta.{Delta}
use Rattle.meta_store.specs.Changes.{amended}
use Rattle.meta_store.proofs.PlainSteps.{changed_next}
use Rattle.meta_store.proofs.plain.amend_held.Goals as goal

pub loop-delta-preserved : goal.loop-delta-preserved
loop-delta-preserved c =
    let l = c.loop-delta in
    let old : List Delta = c.deref_mut-delta-items.result.now in
    changed_next (amended c.args.home c.args.bytes.now) _ c.amend_delta.new.delta old l.delta-items l.delta-index c.loop-delta-test.true l.invariant c.amend_delta.ensures
