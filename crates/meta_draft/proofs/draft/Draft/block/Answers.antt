use Rattle.std.proofs.Common.{List, ℕ, ap, ◌∙◌}
use Rattle.lufs_base.specs.declared.delta.Delta.{Delta}
use Rattle.meta_store.specs.declared.change.RawWrite.{RawWrite}
use Rattle.meta_store.specs.Laid.{laid_block}
use Rattle.meta_store.specs.Changes.{deltas_on}
use Rattle.meta_draft.specs.OnBlock.{raw_on}
use Rattle.meta_draft.proofs.DraftSteps.{read_changed}
use Rattle.meta_draft.proofs.draft.Draft.block.Goals as goal

pub returns-clause-bytes : goal.returns-clause-bytes
returns-clause-bytes g c =
    let d = c.args.self.now in
    let b = c.args.b.0 in
    let store = c.args.store.now in
    let told = g.S.MetaRead.store store in
    let read : List ℕ = c.block.new.out in
    read_changed told.geometry told.content d.change b read c.lay_on.new.block (g.met.S.MetaRead.size store) c.requires.inside d.raw_within c.in_ok-block.ensures.bytes
    (c.lay_on.ensures
    ∙ ap (λ (l : List Delta). laid_block (deltas_on l b) c.lay_raw.new.block) c.as_slice-2.ensures
    ∙ ap (laid_block (deltas_on d.change.deltas b)) (c.lay_raw.ensures ∙ ap (λ (l : List RawWrite). raw_on b l read) c.as_slice.ensures))
