use Rattle.log_laws.proofs.CrashSteps.{writes_none, writes_both, writes_front, writes_sealed}
use Rattle.log_laws.proofs.PieceWrites.{piece_next}
use Rattle.log_laws.proofs.crashes.ring_writes.Goals as goal

pub returns-clause-none : goal.returns-clause-none
returns-clause-none c = writes_none

pub returns-clause-tx : goal.returns-clause-tx
returns-clause-tx c = piece_next

pub returns-clause-both : goal.returns-clause-both
returns-clause-both c = writes_both

pub returns-clause-first : goal.returns-clause-first
returns-clause-first c = writes_front

pub returns-clause-seal : goal.returns-clause-seal
returns-clause-seal c = writes_sealed
