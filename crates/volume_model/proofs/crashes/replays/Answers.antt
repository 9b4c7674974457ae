use Rattle.volume_model.proofs.ReplayLaws.{length-replayed, byte_replayed, untouched_block, nothing_replayed}
use Rattle.volume_model.proofs.crashes.replays.Goals as goal

pub returns-clause-size : goal.returns-clause-size
returns-clause-size c = length-replayed

pub returns-clause-byte : goal.returns-clause-byte
returns-clause-byte c = byte_replayed

pub returns-clause-untouched : goal.returns-clause-untouched
returns-clause-untouched c = untouched_block

pub returns-clause-nothing : goal.returns-clause-nothing
returns-clause-nothing c = nothing_replayed
