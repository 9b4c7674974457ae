use Rattle.log_laws.proofs.TxRead.{tx_reads, tx_trailers, tx_one_by_one, tx_size}
use Rattle.log_laws.proofs.reading.tx_read_back.Goals as goal

pub returns-clause-run : goal.returns-clause-run
returns-clause-run c = tx_reads

pub returns-clause-trailers : goal.returns-clause-trailers
returns-clause-trailers c = tx_trailers

pub returns-clause-size : goal.returns-clause-size
returns-clause-size c = tx_size

pub returns-clause-row : goal.returns-clause-row
returns-clause-row c = tx_one_by_one
