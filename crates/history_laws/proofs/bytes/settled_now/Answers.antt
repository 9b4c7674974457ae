-- A settled byte is touched by no entry after the published ones.
use Rattle.journal_model.specs.Versions.{Published}
use Rattle.history_laws.proofs.SettledBytes.{left_kept, sealed_kept}
use Rattle.history_laws.proofs.bytes.settled_now.Goals as goal

pub returns-clause-published : goal.returns-clause-published
returns-clause-published c = λ g moment opening entries r readings held kept told. left_kept g moment opening entries r (held Published) (readings Published) told kept.published

pub returns-clause-sealed : goal.returns-clause-sealed
returns-clause-sealed c = sealed_kept
