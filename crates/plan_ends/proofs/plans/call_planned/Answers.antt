use Rattle.plan_ends.proofs.PlanApplies.{may_apply}
use Rattle.plan_ends.proofs.TreeTold.{call_stands, edits_of_call}
use Rattle.plan_ends.proofs.plans.call_planned.Goals as goal

pub returns-clause-stands : goal.returns-clause-stands
returns-clause-stands c = call_stands

pub returns-clause-edits : goal.returns-clause-edits
returns-clause-edits c = edits_of_call

pub returns-clause-applies : goal.returns-clause-applies
returns-clause-applies c = may_apply
