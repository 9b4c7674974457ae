-- Each part by itself.
use Rattle.history_laws.proofs.QuietSteps.{quiet_keeps}
use Rattle.history_laws.proofs.volumes.quiet_steps_keep.Goals as goal

pub returns : goal.returns
returns c = λ g moment opening first v calls k step quiet keeps. quiet_keeps g moment opening first v keeps calls k step quiet
