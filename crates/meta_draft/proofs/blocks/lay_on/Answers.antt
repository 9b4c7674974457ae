use Rattle.std.proofs.Common.{◌≡◌, ◌<◌, ℕ, ◌+◌, List, [], ◌∷◌, ◌++◌, length, take, sym, ap, ◌∙◌, arith}
use Rattle.std.proofs.lemmas.List.{take_more}
use Rattle.lufs_base.specs.declared.delta.Delta.{Delta}
use Rattle.meta_store.specs.Laid.{laid_block}
use Rattle.meta_store.specs.Changes.{deltas_on}
use Rattle.meta_store.proofs.LaidBlocks.{nothing_laid}
use Rattle.meta_draft.proofs.DraftSteps.{one_more_on}
use Rattle.meta_draft.proofs.blocks.lay_on.Goals as goal

pub loop-delta-init : goal.loop-delta-init
loop-delta-init c = nothing_laid c.args.block.now

pub loop-delta-preserved : goal.loop-delta-preserved
loop-delta-preserved c =
    let deltas : List Delta = c.args.deltas.now in
    let old : List ℕ = c.args.block.now in
    let b = c.args.b.0 in
    let i = c.loop-delta.delta-index in
    let d = c.delta-item.result in
    let inside : i < length deltas = omega arith in
    let more : take (i + 1) deltas ≡ take i deltas ++ d ∷ [] = take_more deltas i d inside ∙ ap (λ (x : Delta). take i deltas ++ x ∷ []) (sym c.delta-item.is) in
    c.lay_one.ensures
    ∙ ap (λ (bytes : List ℕ). laid_block (deltas_on (d ∷ []) b) bytes) c.loop-delta.invariant
    ∙ one_more_on (take i deltas) d b old
    ∙ ap (λ (l : List Delta). laid_block (deltas_on l b) old) (sym more)
