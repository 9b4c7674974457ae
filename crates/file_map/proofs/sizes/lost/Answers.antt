use Rattle.std.proofs.Common.{◌≡◌, ℕ, ◌+◌, ◌-◌, ◌++◌, [], List, true, false, slice_index, sym, ap, ◌∙◌, arith}
use Rattle.std.specs.Prelude.{nat_le, if◌then◌else◌}
use Rattle.std.proofs.lemmas.List.{append_assoc}
use Rattle.meta_store.specs.declared.change.Freed.{Freed}
use Rattle.file_map.specs.Cut.{lost_block, lost_from, lost}
use Rattle.file_map.proofs.CutLists.{one_more_lost}
use Rattle.file_map.proofs.sizes.lost.Goals as goal

pub loop-index-preserved : goal.loop-index-preserved
loop-index-preserved c =
    let l = c.loop-index in
    let numbers = c.args.numbers.now in
    let first : List Freed = if nat_le c.args.kept 12 then lost_block true (slice_index c.args.d.now.indirect 0) else [] in
    record {
      from = omega (arith, l.invariant.from);
      list =
          c.in_ok-push_lost.ensures.list
          ∙ ap (λ (l : List Freed). l ++ lost_block false c.number_at.result) l.invariant.list
          ∙ ap (λ (n : ℕ). lost c.args.d.now numbers c.args.kept l.index ++ lost_block false n) c.number_at.ensures
          ∙ append_assoc first (lost_from numbers c.args.kept l.index) (lost_block false (slice_index numbers l.index))
          ∙ ap (λ (l : List Freed). first ++ l) (sym (one_more_lost numbers c.args.kept l.index l.invariant.from));
      few = omega (arith, c.in_ok-push_lost.ensures.few, l.invariant.few, l.invariant.from);
    }
