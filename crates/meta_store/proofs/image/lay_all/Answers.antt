use Rattle.std.proofs.Common.{◌≡◌, ◌<◌, ◌+◌, List, ◌++◌, ◌∷◌, [], length, take, refl, ap, sym, ◌∙◌, arith}
use Rattle.std.proofs.lemmas.List.{take_more}
use Rattle.lufs_base.specs.declared.delta.Delta.{Delta}
use Rattle.volume_model.specs.Format.{Image}
use Rattle.meta_store.specs.Laid.{laid_over}
use Rattle.meta_store.specs.LaidSize.{length-laid_over}
use Rattle.meta_store.specs.Changes.{deltas_on}
use Rattle.meta_store.proofs.ImageLaid.{nothing_over, laid_over_append}
use Rattle.meta_store.proofs.image.lay_all.Goals as goal

pub loop-delta-init : goal.loop-delta-init
loop-delta-init c = record { image = sym (nothing_over c.args.image.now.items); size = refl }

pub loop-delta-preserved : goal.loop-delta-preserved
loop-delta-preserved c =
    let deltas : List Delta = c.args.deltas.now in
    let old : Image = c.args.image.now.items in
    let l = c.loop-delta in
    let d = c.delta-item.result in
    let i = l.delta-index in
    let inside : i < length deltas = omega arith in
    let more : take (i + 1) deltas ≡ take i deltas ++ d ∷ [] = take_more deltas i d inside ∙ ap (λ (x : Delta). take i deltas ++ x ∷ []) (sym c.delta-item.is) in
    record {
      image = c.lay_in_image.ensures ∙ ap (λ (image : Image). laid_over (deltas_on (d ∷ [])) image) l.invariant.image ∙ laid_over_append (take i deltas) (d ∷ []) old ∙ ap (λ (ds : List Delta). laid_over (deltas_on ds) old) (sym more);
      size = ap length c.lay_in_image.ensures ∙ length-laid_over (deltas_on (d ∷ [])) l.image.items ∙ l.invariant.size;
    }
