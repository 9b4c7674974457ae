use Rattle.std.proofs.Common.{◌≡◌, ℕ, Bool, ◌&&◌, List, [], Option, sym, ap, ◌∙◌}
use Rattle.volume_model.specs.declared.directory.Slot.{Slot}
use Rattle.volume_model.specs.Sound.{has_right_numbers, has_right_fields}
use Rattle.fsck_core.specs.Claimed.{used_with}
use Rattle.fsck_core.proofs.FieldRules.{bodies_of_fields, below_of_fields, readable_of_fields}
use Rattle.fsck_core.proofs.fields.has_right_fields.Goals as goal

-- the value where the links are right
value : (c : goal.After-has_right_numbers) (i : ℕ) (chunks : List (Option (List Slot)))
    → c.has_right_numbers.result ≡ has_right_fields c.args.g.now i (used_with c.args.d.now c.args.numbers.now chunks)
value c i chunks =
    c.has_right_numbers.ensures.value i chunks
    ∙ ap (λ (t : Bool). t && has_right_numbers c.args.g.now i (used_with c.args.d.now c.args.numbers.now chunks))
    (sym c.if-has_right_links.true ∙ c.has_right_links.ensures)

pub returns-then-has_right_links-clause-value : goal.returns-then-has_right_links-clause-value
returns-then-has_right_links-clause-value c = value c

pub returns-then-has_right_links-clause-bodies : goal.returns-then-has_right_links-clause-bodies
returns-then-has_right_links-clause-bodies c = λ right.
    bodies_of_fields c.args.g.now 0 c.args.d.now c.args.numbers.now [] (sym (value c 0 []) ∙ right)

pub returns-then-has_right_links-clause-directory : goal.returns-then-has_right_links-clause-directory
returns-then-has_right_links-clause-directory c = λ right directory.
    readable_of_fields c.args.g.now 0 c.args.d.now c.args.numbers.now [] (sym (value c 0 []) ∙ right) directory

pub returns-then-has_right_links-clause-below : goal.returns-then-has_right_links-clause-below
returns-then-has_right_links-clause-below c = λ right.
    below_of_fields c.args.g.now 0 c.args.d.now c.args.numbers.now [] (sym (value c 0 []) ∙ right)
