use Rattle.std.proofs.Common.{◌≡◌, Some, List, ℕ, refl, ap, ◌∙◌}
use Rattle.std.specs.Ordering.{is_lt, is_some_and, nat_cmp}
use Rattle.std.specs.Cmp.Lexicographic.{slice_partial_cmp, lists_agrees}
use Rattle.history_model.specs.Names.{is_before}
use Rattle.dir_reads.proofs.NamesInOrder.{before_is}
use Rattle.dir_reads.proofs.listing.is_before.Goals as goal

pub returns : goal.returns
returns c =
    let name = c.as_slice.result.now in
    let other = c.as_slice-2.result.now in
    let told : c.lt.result ≡ is_some_and is_lt (slice_partial_cmp (λ x y. Some (nat_cmp x y)) name other) = c.lt.ensures in
    told ∙ ap (is_some_and is_lt) (lists_agrees (λ x y. refl) name other) ∙ before_is name other
    ∙ ap (λ (n : List ℕ). is_before n other) c.as_slice.ensures ∙ ap (is_before c.args.name.now) c.as_slice-2.ensures
