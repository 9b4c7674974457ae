-- A seal and a publish move names and boundaries together; after a flush a crash leaves what is present.
use Rattle.history_laws.proofs.MovedBytes.{seal_kept, flush_kept, publish_kept}
use Rattle.history_laws.proofs.bytes.bytes_stay.Goals as goal

pub returns-clause-seal : goal.returns-clause-seal
returns-clause-seal c = seal_kept

pub returns-clause-flush : goal.returns-clause-flush
returns-clause-flush c = λ g moment opening entries r readings held ok. flush_kept g moment opening entries r ok readings held

pub returns-clause-publish : goal.returns-clause-publish
returns-clause-publish c = λ g moment opening entries r readings held ok. publish_kept g moment opening entries r ok readings held
