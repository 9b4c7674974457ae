use Rattle.std.proofs.Common.{◌≡◌, ◌<◌, ◌≤◌, ℕ, true, false, List, Option, Some, None, MatchOption, rules}
use borrow.Author.Tests.{tests}
use Rattle.std.proofs.lemmas.Iterator.{first_from_Range}
use Rattle.volume_model.specs.Format.{bit_at}
use Rattle.cyl_groups.specs.Bits.{IsFirstClear}
use Rattle.cyl_groups.proofs.bits.first_clear.Goals as goal

by_cases : (bits : List ℕ) (from end : ℕ) (found : Option ℕ)
    → MatchOption found ((j : ℕ) → from ≤ j → j < end → bit_at bits j ≡ true) (λ i. (from ≤ i) × (i < end) × (bit_at bits i ≡ false) × ((j : ℕ) → from ≤ j → j < i → bit_at bits j ≡ true))
    → IsFirstClear bits from end found
by_cases bits from end None h = h
by_cases bits from end (Some i) h = h

pub returns : goal.returns
returns c =
    let bits = c.args.bits.now in
    by_cases bits c.args.from c.args.end c.find.result
    (first_from_Range _ _ _ _ (λ i. bit_at bits i ≡ false) (λ i. bit_at bits i ≡ true) c.find.ensures.ran (λ x q k. search (rules, tests)) (λ x q k. search (rules, tests)))
