use Rattle.std.proofs.Common.{◌∙◌, map, refl, sym}
use Rattle.fsck_core.specs.Slots.{slot_of}
use Rattle.volume_model.specs.Sound.{names_in_reading}
use Rattle.fsck_core.proofs.SurveySteps.{wrong_slots_seen, slots_seen}
use Rattle.fsck_core.proofs.survey.Survey.enter.Goals as goal

pub returns-then-not-branch-clause-names : goal.returns-then-not-branch-clause-names
returns-then-not-branch-clause-names c = λ n r are none has.
    wrong_slots_seen n c.args.i r c.args.inodes.now (map slot_of c.args.slots.now) c.args.self.now _ are has none (sym c.in_ok-are_right.ensures ∙ c.if-not-branch.true) refl

pub returns-clause-names : goal.returns-clause-names
returns-clause-names c = λ n r are none has.
    slots_seen n c.args.i r c.args.inodes.now (map slot_of c.args.slots.now) c.args.self.now _ are has none (sym c.in_ok-are_right.ensures ∙ c.if-not-branch.false) refl
    c.first_unused-self.ensures (c.enter.ensures.names n (names_in_reading r) are.inside are.slots_are)
