use Rattle.std.proofs.Common.{◌≡◌, ◌∙◌, sym, false, true, subst, ap}
use Rattle.std.proofs.lemmas.Bool.{false≢true}
use Rattle.volume_model.specs.Log.{AreLoggable}
use Rattle.plan_ends.proofs.RecordedTests.{recorded, recorded_passes}
use Rattle.plan_ends.proofs.recorded.is_recorded.Goals as goal

pub returns-then-are_loggable : goal.returns-then-are_loggable
returns-then-are_loggable c =
    let g = c.args.g.now in
    let change = c.args.change.now in
    let deltas = subst (AreLoggable g) c.as_slice.ensures (c.are_loggable.ensures.0 c.if-are_loggable.true) in
    (λ is. recorded g change deltas (sym c.passes.ensures ∙ is), λ all. c.passes.ensures ∙ recorded_passes g change all)

pub returns-else-are_loggable : goal.returns-else-are_loggable
returns-else-are_loggable c =
    let g = c.args.g.now in (
      λ is. absurd (false≢true (sym c.if-are_loggable.false ∙ is)),
      λ all. c.are_loggable.ensures.1 (subst (AreLoggable g) (sym c.as_slice.ensures) all.deltas),
    )
