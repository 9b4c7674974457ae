use Rattle.std.proofs.Common.{ℕ, Bool, not, sym, ◌∙◌, arith, rules}
use borrow.Author.Tests.{tests}
use Rattle.std.proofs.lemmas.Iterator.{YieldsList-from_range}
use Rattle.std.proofs.lemmas.Iterator.Consumers.{YieldsList-from_filter, count_from_yields_List}
use Rattle.std.proofs.lemmas.List.Sums.{length-filter}
use Rattle.std.specs.List.{range_with_len}
use Rattle.volume_model.specs.Format.{bit_at}
use Rattle.volume_laws.proofs.Counting.{one_if, sum_of_range}
use Rattle.volume_laws.proofs.FreeBits.{clear_counted}
use Rattle.file_map.proofs.group_bits.count_clear.Goals as goal

pub returns : goal.returns
returns c =
    let bits = c.args.bits.now in
    let n = c.args.n in
    let test : ℕ → Bool = λ i. not (bit_at bits i) in
    count_from_yields_List _ _ c.count.ensures.ran
    (YieldsList-from_filter _ test (YieldsList-from_range 0 n n c.filter.ensures.source (omega arith)) c.filter.ensures.closure (λ x b q k. search (rules, tests)))
    ∙ length-filter test (range_with_len 0 n)
    ∙ sum_of_range (λ i. one_if (test i)) n
    ∙ sym (clear_counted bits n)
