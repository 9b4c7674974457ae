use Rattle.std.proofs.Common.{refl}
use Rattle.lufs_base.specs.Fields.{number_in}
use Rattle.volume_model.specs.Log.{header_of, header_bytes, may_be_logged, may_precede, front_of, run_after, transactions_from, log_with, carrying}
use Rattle.journal_model.proofs.worked.rolls.Goals as goal

pub returns-clause-by_the_old : goal.returns-clause-by_the_old
unfolding number_in header_bytes header_of may_be_logged may_precede front_of run_after transactions_from log_with carrying
returns-clause-by_the_old c = refl

pub returns-clause-by_the_new : goal.returns-clause-by_the_new
unfolding number_in header_bytes header_of may_be_logged may_precede front_of run_after transactions_from log_with carrying
returns-clause-by_the_new c = refl
