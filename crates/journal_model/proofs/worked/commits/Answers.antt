use Rattle.std.proofs.Common.{refl}
use Rattle.lufs_base.specs.Fields.{number_in}
use Rattle.volume_model.specs.Log.{header_of, header_bytes, may_be_logged, may_precede, front_of, run_after, transactions_from, log_with, carrying}
use Rattle.journal_model.proofs.worked.commits.Goals as goal

pub returns-clause-whole : goal.returns-clause-whole
unfolding number_in header_bytes header_of may_be_logged may_precede front_of run_after transactions_from log_with carrying
returns-clause-whole c = refl

pub returns-clause-without_the_second : goal.returns-clause-without_the_second
unfolding number_in header_bytes header_of may_be_logged may_precede front_of run_after transactions_from log_with carrying
returns-clause-without_the_second c = refl
