-- By what a tree and its shape have in common.
use Rattle.history_rules.proofs.ShapeLaws.{shape_reply, shape_refusal, shape_wanted}
use Rattle.history_rules.proofs.laws.shapes_are_enough.Goals as goal

pub returns-clause-refusals : goal.returns-clause-refusals
returns-clause-refusals c = λ g tree cred call. shape_refusal tree cred g call

pub returns-clause-replies : goal.returns-clause-replies
returns-clause-replies c = λ g tree cred call. shape_reply tree cred g call

pub returns-clause-wanted : goal.returns-clause-wanted
returns-clause-wanted c = λ g tree cred call. shape_wanted tree cred g call
