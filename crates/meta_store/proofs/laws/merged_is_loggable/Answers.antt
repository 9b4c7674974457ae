use Rattle.meta_store.proofs.MergedTable.{each_loggable}
use Rattle.meta_store.proofs.MergedOrder.{merged_are_loggable, all_merged_are_loggable}
use Rattle.meta_store.proofs.laws.merged_is_loggable.Goals as goal

pub returns-clause-one : goal.returns-clause-one
returns-clause-one c g deltas d are table bytes = merged_are_loggable g deltas d are (record { table = table; bytes = bytes })

pub returns-clause-all : goal.returns-clause-all
returns-clause-all c g deltas more are own = all_merged_are_loggable g deltas more are (each_loggable g more own)
