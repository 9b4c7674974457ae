use Rattle.std.proofs.Common.{List, ap, ◌∙◌, arith}
use Rattle.lufs_base.specs.declared.delta.Delta.{Delta}
use Rattle.volume_model.specs.Log.{delta_bytes}
use Rattle.meta_store.specs.Merged.{merged}
use Rattle.meta_store.specs.Deltas.{cancel_delta}
use Rattle.meta_draft.proofs.MergedBytes.{merged_no_longer}
use Rattle.meta_draft.proofs.draft.Draft.free.Goals as goal

pub returns-clause-growth : goal.returns-clause-growth
returns-clause-growth c =
    let old : List Delta = c.args.self.now.change.deltas in
    let d = cancel_delta c.args.freed.block.0 in
    let is = ap delta_bytes (c.in_ok-deltas.ensures.list ∙ ap (λ (l : List Delta). merged l c.whole_block-cancel.result) c.as_slice.ensures ∙ ap (λ (x : Delta). merged old x) c.whole_block-cancel.ensures) in
    omega (arith, is, merged_no_longer old d)
