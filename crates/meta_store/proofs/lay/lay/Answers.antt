use Rattle.std.proofs.Common.{◌≡◌, ◌<◌, ℕ, ◌+◌, List, [], ◌∷◌, ◌++◌, length, take, sym, ap, ◌∙◌, arith}
use Rattle.std.proofs.lemmas.List.{take_more}
use Rattle.lufs_base.specs.declared.delta.Delta.{Delta}
use Rattle.meta_store.specs.Laid.{laid_block}
use Rattle.meta_store.proofs.LaidBlocks.{nothing_laid, laid_block_more}
use Rattle.meta_store.proofs.lay.lay.Goals as goal

pub loop-delta-init : goal.loop-delta-init
loop-delta-init c = nothing_laid c.args.block.now

pub loop-delta-preserved : goal.loop-delta-preserved
loop-delta-preserved c =
    let deltas : List Delta = c.args.deltas.now in
    let old : List ℕ = c.args.block.now in
    let i = c.loop-delta.delta-index in
    let d = c.delta-item.result in
    let within : i < length deltas = omega arith in
    let more : take (i + 1) deltas ≡ take i deltas ++ d ∷ [] = take_more deltas i d within ∙ ap (λ (x : Delta). take i deltas ++ x ∷ []) (sym c.delta-item.is) in
    c.lay_delta.ensures
    ∙ ap (λ (bytes : List ℕ). laid_block (d ∷ []) bytes) c.loop-delta.invariant
    ∙ laid_block_more (take i deltas) d old
    ∙ ap (λ (l : List Delta). laid_block l old) (sym more)
