use Rattle.std.proofs.Common.{ℕ, Option, Vec, Global, length, map, slice_index, sym, ap, ◌∙◌}
use Rattle.std.specs.Option.{option_map}
use Rattle.fsck_core.specs.StepsUp.{far_from}
use Rattle.fsck_core.proofs.ClimbedSteps.{at_each_place}
use Rattle.fsck_core.proofs.parents.with_last.Goals as goal

pub returns-in-None : goal.returns-in-None
returns-in-None c =
    let step = c.args.step.items in
    sym (at_each_place step)
    ∙ sym (ap (λ (o : Option (Vec ℕ Global)). map (slice_index step) (far_from (length step) (option_map (λ f. f.items) o))) c.in-None.is)
