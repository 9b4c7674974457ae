use Rattle.std.proofs.Common.{◌≡◌, ◌<◌, ◌+◌, List, [], ◌∷◌, ◌++◌, length, take, ap, ◌∙◌, sym, arith}
use Rattle.std.proofs.lemmas.List.{take_more}
use Rattle.std.proofs.lemmas.List.Elements.{All-same, All-get_or}
use Rattle.lufs_base.specs.declared.delta.Delta.{Delta}
use Rattle.meta_store.specs.Laid.{IsWithinBlock}
use Rattle.meta_store.specs.Merged.{merged, all_merged}
use Rattle.meta_store.proofs.MergeSteps.{all_merged_none, all_merged_more, merged_within}
use Rattle.meta_store.proofs.merge.all_merged.Goals as goal

pub loop-delta-init : goal.loop-delta-init
loop-delta-init c =
    record {
      list = c.in_ok-all.ensures ∙ sym (all_merged_none c.args.deltas.now);
      within = All-same IsWithinBlock c.in_ok-all.all.items c.args.deltas.now c.in_ok-all.ensures c.requires.deltas;
    }

pub loop-delta-preserved : goal.loop-delta-preserved
loop-delta-preserved c =
    let more : List Delta = c.args.more.now in
    let l = c.loop-delta in
    let d = c.delta-item.result in
    let i = l.delta-index in
    let inside : i < length more = omega arith in
    let one : take (i + 1) more ≡ take i more ++ d ∷ [] = take_more more i d inside ∙ ap (λ (x : Delta). take i more ++ x ∷ []) (sym c.delta-item.is) in
    let step : c.in_ok-all-2.all.items ≡ merged l.all.items d = c.in_ok-all-2.ensures ∙ ap (λ (all : List Delta). merged all d) c.as_slice.ensures.value in
    let its_own : IsWithinBlock d = rw c.delta-item.is (All-get_or IsWithinBlock more i d inside c.requires.more) in
    record {
      list = step ∙ ap (λ (all : List Delta). merged all d) l.invariant.list ∙ sym (all_merged_more c.args.deltas.now (take i more) d) ∙ ap (all_merged c.args.deltas.now) (sym one);
      within = All-same IsWithinBlock c.in_ok-all-2.all.items (merged l.all.items d) step (merged_within l.all.items d l.invariant.within its_own);
    }
