use Rattle.std.proofs.Common.{length}
use Rattle.std.specs.Option.{option_map}
use Rattle.fsck_core.specs.StepsUp.{far_from}
use Rattle.fsck_core.proofs.ClimbedSteps.{Climbs}
use Rattle.fsck_core.proofs.parents.far_above.Given as goal

-- the steps that are left lead from `far` to where all lead
abbrev pub invariant-loop-left : goal.invariant-loop-left
invariant-loop-left l = Climbs l.fn.above.items l.steps l.left l.step.items (far_from (length l.fn.above.items) (option_map (λ f. f.items) l.far))

abbrev pub decreases-loop-left : goal.decreases-loop-left
decreases-loop-left l = l.left
