use Rattle.std.proofs.Common.{refl}
use Rattle.lufs_base.specs.Fields.{number_in}
use Rattle.volume_model.specs.Log.{header_of, header_bytes, may_be_logged, may_precede, front_of, run_after, transactions_from, log_with, carrying}
use Rattle.journal_model.proofs.worked.turns.Goals as goal

pub returns-clause-to_the_end : goal.returns-clause-to_the_end
unfolding number_in header_bytes header_of may_be_logged may_precede front_of run_after transactions_from log_with carrying
returns-clause-to_the_end c = refl

pub returns-clause-from_the_front : goal.returns-clause-from_the_front
unfolding number_in header_bytes header_of may_be_logged may_precede front_of run_after transactions_from log_with carrying
returns-clause-from_the_front c = refl

pub returns-clause-listed : goal.returns-clause-listed
unfolding number_in header_bytes header_of may_be_logged may_precede front_of run_after transactions_from log_with carrying
returns-clause-listed c = refl
