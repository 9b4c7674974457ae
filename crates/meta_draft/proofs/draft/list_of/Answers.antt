use Rattle.std.proofs.Common.{◌≡◌, ◌∷◌, [], ◌++◌, List, length, refl, sym, ap, ◌∙◌, append_assoc, append-nil, arith}
use Rattle.std.specs.Vec.Iter.{into_iter_items}
use Rattle.lufs_base.specs.declared.delta.Delta.{Delta}
use Rattle.meta_draft.proofs.draft.list_of.Goals as goal

nothing_left : {X : Type 0} (l : List X) → length l ≡ 0 → l ≡ []
nothing_left [] none = refl
nothing_left (x ∷ xs) none = absurd (omega arith)

pub loop-delta-preserved : goal.loop-delta-preserved
loop-delta-preserved c =
    let at = c.loop-delta in
    let d = c.in-Some.delta in
    let rest : List Delta = into_iter_items c.next.new.self in
    let steps : into_iter_items at.delta-iterator ≡ d ∷ rest = c.in-Some.ensures.steps.0 in
    record {
      all = ap (λ (l : List Delta). l ++ rest) c.in_ok-push.ensures.ok ∙ append_assoc at.list (d ∷ []) rest ∙ ap (λ (l : List Delta). at.list ++ l) (sym steps) ∙ at.invariant.all;
      left = let was = at.invariant.left in let gone = c.in-Some.ensures.steps.1 in let short = ap length steps in omega arith;
    }

pub returns : goal.returns
returns c =
    let at = c.loop-delta in
    let none = c.in-None.ensures.steps in
    let empty : into_iter_items at.delta-iterator ≡ [] = nothing_left _ (sym at.invariant.left ∙ none.0) in
    sym (append-nil at.list) ∙ ap (λ (l : List Delta). at.list ++ l) (sym empty) ∙ at.invariant.all ∙ c.into_iter-delta-iterator.ensures.into_iter_gives.0
