use Rattle.std.proofs.Common.{List, ◌++◌, ap, subst, ◌∙◌, sym, arith}
use Rattle.std.specs.List.{filter}
use Rattle.std.proofs.lemmas.List.{drop_all}
use Rattle.lufs_base.specs.declared.delta.Delta.{Delta}
use Rattle.meta_store.specs.Laid.{IsWithinBlock}
use Rattle.meta_store.specs.Merged.{stands_beside, placed, placed_left}
use Rattle.meta_store.proofs.MergeSteps.{merged_is}
use Rattle.meta_store.proofs.merge.merged.Goals as goal

pub loop-older-init : goal.loop-older-init
loop-older-init c =
    let deltas : List Delta = c.args.deltas.now in
    let kept : List Delta = filter (stands_beside c.args.delta.now) deltas in
    let same = c.in_ok-copy_of.ensures in
    record {
      list = ap (λ (l : List Delta). l ++ placed kept c.in_ok-copy_of.field-0) c.new-all.ensures.items ∙ ap (placed kept) same ∙ sym (merged_is deltas c.args.delta.now);
      left = subst IsWithinBlock (sym same) c.requires.delta;
    }

pub returns : goal.returns
returns c =
    let deltas : List Delta = c.args.deltas.now in
    let l = c.loop-older in
    c.in_ok-push_left.ensures
    ∙ ap (λ (more : List Delta). l.all.items ++ placed_left l.left (filter (stands_beside c.args.delta.now) more)) (sym (drop_all l.older-index deltas (omega (arith, c.loop-older-test.false))))
    ∙ l.invariant.list
