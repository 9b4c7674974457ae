use Rattle.std.proofs.Common.{◌≡◌, ℕ, Bool, true, false, sym, arith, rules}
use borrow.Author.Tests.{tests}
use Rattle.std.proofs.lemmas.Iterator.{first_from_Range}
use Rattle.volume_model.specs.Format.{Blocks}
use Rattle.volume_model.specs.Sound.{reading_of, has_bad_count}
use Rattle.fsck_core.specs.Tables.{AreGroups}
use Rattle.fsck_core.proofs.FirstFound.{found_first, same_first}
use Rattle.fsck_core.proofs.bits.first_bad_count.Goals as goal

pub returns : goal.returns
returns c = λ blocks groups.
    let g = c.args.g.now in
    let p = has_bad_count g (reading_of g blocks) in
    let Says : Bool → ℕ → Type 0 = λ b n. (bs : Blocks) → AreGroups g bs c.args.groups.now → b ≡ has_bad_count g (reading_of g bs) n in
    found_first p g.groups 0 g.groups c.find.result (omega arith)
    (same_first p (Says true) (Says false) 0 g.groups c.find.result (λ n low less says. sym (says blocks groups)) (λ n low less says. sym (says blocks groups))
    (first_from_Range _ _ _ c.find.result (Says true) (Says false) c.find.ensures.ran (λ x q k. search (rules, tests)) (λ x q k. search (rules, tests))))
