use Rattle.std.proofs.Common.{not, ◌==◌, slice_index, eq-eqb, sym, ◌∙◌}
use Rattle.std.proofs.lemmas.Bool.{ne_eqb}
use Rattle.std.proofs.lemmas.List.Sums.{length-filter}
use Rattle.fsck_core.specs.Claimed.{nonzero}
use Rattle.fsck_core.proofs.Nonzero.{counted_with, counted_without}
use Rattle.fsck_core.proofs.fields.count_claimed.Goals as goal

pub returns-then-d-eq0 : goal.returns-then-d-eq0
returns-then-d-eq0 c =
    let pointer = slice_index c.args.d.now.indirect 0 in
    let numbers = c.args.numbers.now in
    counted_without (pointer == 0) pointer c.count_nonzero-at_indexes.result (nonzero numbers) (eq-eqb pointer 0 c.if-d-eq0.true)
    (c.count_nonzero-at_indexes.ensures.value ∙ sym (length-filter (λ b. not (b == 0)) numbers))

pub returns-else-d-eq0 : goal.returns-else-d-eq0
returns-else-d-eq0 c =
    let pointer = slice_index c.args.d.now.indirect 0 in
    let numbers = c.args.numbers.now in
    counted_with (pointer == 0) pointer c.count_nonzero-at_indexes.result (nonzero numbers) (ne_eqb pointer 0 c.if-d-eq0.false)
    (c.count_nonzero-at_indexes.ensures.value ∙ sym (length-filter (λ b. not (b == 0)) numbers))
