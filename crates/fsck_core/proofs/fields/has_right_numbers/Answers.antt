use Rattle.std.proofs.Common.{ℕ, ◌==◌, ◌&&◌, List, length, sym, ap, ◌∙◌}
use Rattle.std.specs.List.{list_all}
use Rattle.volume_model.specs.Format.{is_body}
use Rattle.fsck_core.specs.Claimed.{blocks_claimed}
use Rattle.fsck_core.proofs.FieldRules.{numbers_by_claims, wrong_hole, wrong_size, some_past}
use Rattle.fsck_core.proofs.fields.has_right_numbers.Goals as goal

pub returns-then-not-has_right_size-clause-value : goal.returns-then-not-has_right_size-clause-value
returns-then-not-has_right_size-clause-value c = λ i chunks.
    wrong_size c.args.g.now i c.args.d.now c.args.numbers.now chunks (sym (c.has_right_size.ensures.value c.args.g.now) ∙ c.if-not-has_right_size.true)

pub returns-then-not-has_none_past-clause-value : goal.returns-then-not-has_none_past-clause-value
returns-then-not-has_none_past-clause-value c = λ i chunks.
    some_past c.args.g.now i c.args.d.now c.args.numbers.now chunks (sym (c.has_none_past.ensures chunks) ∙ c.if-not-has_none_past.true)

pub returns-then-has_no_wrong_hole-clause-value : goal.returns-then-has_no_wrong_hole-clause-value
returns-then-has_no_wrong_hole-clause-value c = λ i chunks.
    let g = c.args.g.now in
    let d = c.args.d.now in
    let numbers = c.args.numbers.now in
    c.has_right_claims.ensures
    ∙ ap (λ (l : List ℕ). list_all (is_body g) (blocks_claimed d l) && d.blocks == length (blocks_claimed d l)) c.below_size.ensures.value
    ∙ numbers_by_claims g i d numbers chunks (sym (c.has_right_size.ensures.value g) ∙ c.if-not-has_right_size.false)
    (sym (c.has_none_past.ensures chunks) ∙ c.if-not-has_none_past.false) (sym (c.has_no_wrong_hole.ensures chunks) ∙ c.if-has_no_wrong_hole.true)

pub returns-else-has_no_wrong_hole-clause-value : goal.returns-else-has_no_wrong_hole-clause-value
returns-else-has_no_wrong_hole-clause-value c = λ i chunks.
    c.if-has_no_wrong_hole.false
    ∙ wrong_hole c.args.g.now i c.args.d.now c.args.numbers.now chunks (sym (c.has_right_size.ensures.value c.args.g.now) ∙ c.if-not-has_right_size.false)
    (sym (c.has_none_past.ensures chunks) ∙ c.if-not-has_none_past.false) (sym (c.has_no_wrong_hole.ensures chunks) ∙ c.if-has_no_wrong_hole.false)
