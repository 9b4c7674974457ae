use Rattle.volume_laws.proofs.UnclaimedBlocks.{nothing_read, agree_where_read, agree_but_in_file_bytes}
use Rattle.volume_laws.proofs.changes.unclaimed_blocks.Goals as goal

pub returns-clause-unread : goal.returns-clause-unread
returns-clause-unread c = nothing_read

pub returns-clause-agree : goal.returns-clause-agree
returns-clause-agree c = agree_where_read

pub returns-clause-metadata : goal.returns-clause-metadata
returns-clause-metadata c = agree_but_in_file_bytes
