use Rattle.std.proofs.Common.{◌≡◌, ℕ, ◌+◌, ◌-◌, ◌*◌, List, ◌∷◌, [], length, take, drop, ap, ◌∙◌, arith}
use borrow.Rule.Slice.PartMut.{put_mid}
use Rattle.volume_model.specs.Format.{Image}
use Rattle.meta_store.specs.Laid.{laid_block, laid_over}
use Rattle.meta_store.specs.LaidSize.{length-laid_over}
use Rattle.meta_store.specs.Changes.{deltas_on}
use Rattle.meta_store.proofs.ImageLaid.{block_laid, whole_written}
use Rattle.meta_store.proofs.image.lay_in_image.Goals as goal

pub returns : goal.returns
returns c =
    let d = c.args.delta.now in
    let old : Image = c.args.image.now.items in
    let at = 4096 * c.block_of.result in
    let n = at + 4096 - at in
    let new : Image = put_mid at n c.deref_mut.result.now c.lay_delta.new.block in
    let laid : new ≡ laid_over (deltas_on (d ∷ [])) old =
    ap (λ (l : Image). put_mid at n l c.lay_delta.new.block) c.deref_mut.ensures.value
    ∙ block_laid d old at n c.lay_delta.new.block (ap (λ (b : ℕ). 4096 * b) c.block_of.ensures) (omega arith) (omega (arith, c.block_of.ensures, c.requires))
    (c.lay_delta.ensures ∙ ap (λ (l : List ℕ). laid_block (d ∷ []) (take n (drop at l))) c.deref_mut.ensures.value) in
    whole_written new old c.args.image.now.len (ap length laid ∙ length-laid_over (deltas_on (d ∷ [])) old) c.args.image.now.ok.0 ∙ laid
