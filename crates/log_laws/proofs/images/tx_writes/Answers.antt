use Rattle.log_laws.proofs.ImageSteps.{tx_whole}
use Rattle.log_laws.proofs.PieceWrites.{piece_ring, piece_header, piece_log, piece_stands}
use Rattle.log_laws.proofs.images.tx_writes.Goals as goal

pub returns-clause-ring : goal.returns-clause-ring
returns-clause-ring c = piece_ring

pub returns-clause-header : goal.returns-clause-header
returns-clause-header c = piece_header

pub returns-clause-log : goal.returns-clause-log
returns-clause-log c = piece_log

pub returns-clause-done : goal.returns-clause-done
returns-clause-done c = piece_stands

pub returns-clause-whole : goal.returns-clause-whole
returns-clause-whole c = tx_whole
