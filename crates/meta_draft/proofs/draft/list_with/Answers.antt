use Rattle.std.proofs.Common.{List, sym, subst, ◌∙◌}
use Rattle.std.specs.Prelude.{All}
use Rattle.lufs_base.specs.declared.delta.Delta.{Delta}
use Rattle.meta_store.specs.Laid.{IsWithinBlock}
use Rattle.meta_store.proofs.MergeSteps.{merged_within}
use Rattle.meta_draft.proofs.draft.list_with.Goals as goal

pub returns-clause-within : goal.returns-clause-within
returns-clause-within c =
    let deltas : List Delta = c.args.deltas.now in
    subst (λ (l : List Delta). All IsWithinBlock l) (sym (c.in_ok-list.ensures ∙ c.in_ok-all.ensures)) (merged_within deltas c.args.delta.now c.requires.deltas c.requires.delta)
