use Rattle.std.proofs.Common.{◌≡◌, ◌<◌, ℕ, ◌+◌, List, [], ◌∷◌, ◌++◌, length, take, sym, ap, ◌∙◌, arith}
use Rattle.std.proofs.lemmas.List.{take_more}
use Rattle.meta_store.specs.declared.change.RawWrite.{RawWrite}
use Rattle.meta_draft.specs.OnBlock.{raw_on}
use Rattle.meta_draft.proofs.DraftSteps.{raw_on_append}
use Rattle.meta_draft.proofs.blocks.lay_raw.Goals as goal

pub loop-write-preserved : goal.loop-write-preserved
loop-write-preserved c =
    let raw : List RawWrite = c.args.raw.now in
    let old : List ℕ = c.args.block.now in
    let b = c.args.b.0 in
    let i = c.loop-write.write-index in
    let w = c.write-item.result in
    let inside : i < length raw = omega arith in
    let more : take (i + 1) raw ≡ take i raw ++ w ∷ [] = take_more raw i w inside ∙ ap (λ (x : RawWrite). take i raw ++ x ∷ []) (sym c.write-item.is) in
    c.lay_one_raw.ensures
    ∙ ap (raw_on b (w ∷ [])) c.loop-write.invariant
    ∙ sym (raw_on_append b (take i raw) (w ∷ []) old)
    ∙ ap (λ (l : List RawWrite). raw_on b l old) (sym more)
