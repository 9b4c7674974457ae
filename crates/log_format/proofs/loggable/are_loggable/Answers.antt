use Rattle.std.proofs.Common.{◌≡◌, ◌∙◌, sym}
use Rattle.log_format.proofs.LoggableTests.{loggable, loggable_passes}
use Rattle.log_format.proofs.loggable.are_loggable.Goals as goal

pub returns : goal.returns
returns c = (
  λ is. loggable c.args.g.now c.args.deltas.now (sym c.pass.ensures ∙ is),
  λ all. c.pass.ensures ∙ loggable_passes c.args.g.now c.args.deltas.now all,
)
