use Rattle.std.proofs.Common.{refl}
use Rattle.volume_model.specs.Log.{replayed}
use Rattle.worked_volumes.proofs.small_logs.replays_of_four_bytes.Goals as goal

pub returns-clause-one : goal.returns-clause-one
unfolding replayed
returns-clause-one c = refl

pub returns-clause-later_wins : goal.returns-clause-later_wins
unfolding replayed
returns-clause-later_wins c = refl

pub returns-clause-zeros_below : goal.returns-clause-zeros_below
unfolding replayed
returns-clause-zeros_below c = refl

pub returns-clause-cancelled : goal.returns-clause-cancelled
unfolding replayed
returns-clause-cancelled c = refl

pub returns-clause-written_again : goal.returns-clause-written_again
unfolding replayed
returns-clause-written_again c = refl
