use Rattle.std.proofs.Common.{◌≡◌, ◌<◌, ◌-◌, ℕ, List, Bool, true, false, length, slice_set, ap, sym, subst, ◌∙◌, arith, rules}
use borrow.Author.Tests.{tests}
use Rattle.std.proofs.iter.Serving.{serving}
use Rattle.std.proofs.lemmas.Iterator.{first_from_Range}
use Rattle.std.proofs.lemmas.List.{length-set}
use Rattle.volume_model.specs.Sound.{has_bad_parent}
use Rattle.fsck_core.specs.StepsUp.{is_misplaced, LeadsUp}
use Rattle.fsck_core.proofs.FirstFound.{found_first, same_first}
use Rattle.fsck_core.proofs.PlacedDirectories.{misplaced_is}
use Rattle.fsck_core.proofs.parents.first_bad_parent.Goals as goal

pub find-requires-clause-callable : goal.find-requires-clause-callable
find-requires-clause-callable c =
    let size : length c.in_ok-far.far.items ≡ length c.args.inodes.now =
    c.in_ok-far.ensures.size ∙ ap length c.in_ok-above.ensures ∙ length-set c.deref.result.now 2 2 ∙ ap length c.deref.ensures.value ∙ c.requires.sizes.parents in
    grind serving

pub returns : goal.returns
returns c = λ m has directories inside.
    let inodes = c.args.inodes.now in
    let t = c.args.tables.now in
    let n = length inodes in
    let far = c.in_ok-far.far.items in
    let Says : Bool → ℕ → Type 0 = λ b i. b ≡ is_misplaced inodes t far i in
    let up = c.in_ok-above.above.items in
    let above : up ≡ slice_set t.parents.items 2 2 = c.in_ok-above.ensures ∙ ap (λ (xs : List ℕ). slice_set xs 2 2) c.deref.ensures.value in
    let leads : LeadsUp up (n - 1) far = subst (λ (steps : ℕ). LeadsUp up steps far) c.saturating_sub.ensures c.in_ok-far.ensures in
    let agrees : (b : Bool) (i : ℕ) → i < n → Says b i → has_bad_parent n m i ≡ b = λ b i less says. sym (says ∙ misplaced_is n m inodes t up far has directories inside above leads i less) in
    found_first (has_bad_parent n m) n 0 n c.find.result (omega arith)
    (same_first (has_bad_parent n m) (Says true) (Says false) 0 n c.find.result (λ i low less says. agrees true i less says) (λ i low less says. agrees false i less says)
    (first_from_Range _ _ _ c.find.result (Says true) (Says false) c.find.ensures.ran (λ x q k. search (rules, tests)) (λ x q k. search (rules, tests))))
