use Rattle.std.proofs.Common.{refl}
use Rattle.lufs_base.specs.Fields.{number_in}
use Rattle.volume_model.specs.Log.{header_of, may_be_logged, may_precede, front_of, run_after, transactions_from, log_with}
use Rattle.worked_volumes.proofs.small_logs.rings.Goals as goal

pub returns-clause-wrapped : goal.returns-clause-wrapped
unfolding number_in header_of may_be_logged may_precede front_of run_after transactions_from log_with
returns-clause-wrapped c = refl

pub returns-clause-full : goal.returns-clause-full
unfolding number_in header_of may_be_logged may_precede front_of run_after transactions_from log_with
returns-clause-full c = refl

pub returns-clause-full_from_its_middle : goal.returns-clause-full_from_its_middle
unfolding number_in header_of may_be_logged may_precede front_of run_after transactions_from log_with
returns-clause-full_from_its_middle c = refl

pub returns-clause-stale_after : goal.returns-clause-stale_after
unfolding number_in header_of may_be_logged may_precede front_of run_after transactions_from log_with
returns-clause-stale_after c = refl

pub returns-clause-last_number : goal.returns-clause-last_number
unfolding number_in header_of may_be_logged may_precede front_of run_after transactions_from log_with
returns-clause-last_number c = refl

pub returns-clause-turned : goal.returns-clause-turned
unfolding number_in header_of may_be_logged may_precede front_of run_after transactions_from log_with
returns-clause-turned c = refl
