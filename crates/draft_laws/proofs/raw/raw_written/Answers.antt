use Rattle.draft_laws.proofs.RawWritten.{raw_held, raw_of_file}
use Rattle.draft_laws.proofs.raw.raw_written.Goals as goal

pub returns-clause-kept : goal.returns-clause-kept
returns-clause-kept c g base taken change hands w draft in_block held unclaimed = (raw_held g base taken change hands w draft in_block held unclaimed).0

pub returns-clause-bytes : goal.returns-clause-bytes
returns-clause-bytes c g base taken change hands w draft in_block held unclaimed = (raw_held g base taken change hands w draft in_block held unclaimed).1

pub returns-clause-file : goal.returns-clause-file
returns-clause-file c g base taken change hands w i k u file draft in_block has number some = raw_of_file g base taken change hands w draft in_block i k u file has number some
