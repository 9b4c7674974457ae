use Rattle.std.proofs.Common.{Bool, cond, List, [], ◌∷◌, ℕ, sym, ap, ◌∙◌}
use Rattle.meta_store.specs.Laid.{laid_block}
use Rattle.meta_store.proofs.LaidBlocks.{nothing_laid}
use Rattle.meta_draft.proofs.blocks.lay_one.Goals as goal

pub returns-else-lays_on : goal.returns-else-lays_on
returns-else-lays_on c =
    let d = c.args.delta.now in
    let old : List ℕ = c.args.block.now in
    nothing_laid old ∙ ap (λ (test : Bool). laid_block (cond test (d ∷ []) []) old) (sym c.if-lays_on.false ∙ c.lays_on.ensures)
