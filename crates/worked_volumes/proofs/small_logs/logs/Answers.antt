use Rattle.std.proofs.Common.{refl}
use Rattle.lufs_base.specs.Fields.{number_in}
use Rattle.volume_model.specs.Log.{header_of, may_be_logged, may_precede, front_of, run_after, transactions_from, log_with}
use Rattle.worked_volumes.proofs.small_logs.logs.Goals as goal

pub returns-clause-no_header : goal.returns-clause-no_header
unfolding number_in header_of may_be_logged may_precede front_of run_after transactions_from log_with
returns-clause-no_header c = refl

pub returns-clause-empty : goal.returns-clause-empty
unfolding number_in header_of may_be_logged may_precede front_of run_after transactions_from log_with
returns-clause-empty c = refl

pub returns-clause-committed : goal.returns-clause-committed
unfolding number_in header_of may_be_logged may_precede front_of run_after transactions_from log_with
returns-clause-committed c = refl

pub returns-clause-bad_type : goal.returns-clause-bad_type
unfolding number_in header_of may_be_logged may_precede front_of run_after transactions_from log_with
returns-clause-bad_type c = refl

pub returns-clause-other_epoch : goal.returns-clause-other_epoch
unfolding number_in header_of may_be_logged may_precede front_of run_after transactions_from log_with
returns-clause-other_epoch c = refl

pub returns-clause-no_commit : goal.returns-clause-no_commit
unfolding number_in header_of may_be_logged may_precede front_of run_after transactions_from log_with
returns-clause-no_commit c = refl

pub returns-clause-zeros_for_commit : goal.returns-clause-zeros_for_commit
unfolding number_in header_of may_be_logged may_precede front_of run_after transactions_from log_with
returns-clause-zeros_for_commit c = refl
