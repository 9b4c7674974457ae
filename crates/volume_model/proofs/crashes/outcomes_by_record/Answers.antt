use Rattle.volume_model.proofs.CrashLaws.{grows, begins_anew, crash_again}
use Rattle.volume_model.proofs.crashes.outcomes_by_record.Goals as goal

pub returns-clause-more_calls : goal.returns-clause-more_calls
returns-clause-more_calls c = grows

pub returns-clause-anew : goal.returns-clause-anew
returns-clause-anew c = begins_anew

pub returns-clause-again : goal.returns-clause-again
returns-clause-again c = crash_again
