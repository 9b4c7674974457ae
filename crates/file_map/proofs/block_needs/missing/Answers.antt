use Rattle.std.proofs.Common.{◌≡◌, ℕ, ◌++◌, ◌∷◌, [], ◌-◌, eqb, cond, List, slice_index, sym, ap, ◌∙◌, arith}
use Rattle.std.specs.List.{filter, range_with_len}
use Rattle.file_map.proofs.MissingBlocks.{one_more}
use Rattle.file_map.proofs.block_needs.missing.Goals as goal

pub loop-index-preserved : goal.loop-index-preserved
loop-index-preserved c =
    let l = c.loop-index in
    let numbers = c.args.numbers.now in
    record {
      from = omega (arith, l.invariant.from);
      list =
          c.in_ok-push_missing.ensures
          ∙ ap (λ (xs : List ℕ). xs ++ cond (eqb c.number_at-number.result 0) (l.index ∷ []) []) l.invariant.list
          ∙ ap (λ (n : ℕ). filter (λ k. eqb (slice_index numbers k) 0) (range_with_len c.args.first (l.index - c.args.first)) ++ cond (eqb n 0) (l.index ∷ []) []) c.number_at-number.ensures
          ∙ sym (one_more (λ k. eqb (slice_index numbers k) 0) c.args.first l.index l.invariant.from);
    }
