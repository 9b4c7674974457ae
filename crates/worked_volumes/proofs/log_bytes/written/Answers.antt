use Rattle.std.proofs.Common.{refl}
use Rattle.volume_model.specs.Log.{header_bytes, carrying}
use Rattle.worked_volumes.proofs.log_bytes.written.Goals as goal

pub returns-clause-header : goal.returns-clause-header
unfolding header_bytes carrying
returns-clause-header c = refl

pub returns-clause-one_delta : goal.returns-clause-one_delta
unfolding header_bytes carrying
returns-clause-one_delta c = refl

pub returns-clause-no_deltas : goal.returns-clause-no_deltas
unfolding header_bytes carrying
returns-clause-no_deltas c = refl

pub returns-clause-no_bytes : goal.returns-clause-no_bytes
unfolding header_bytes carrying
returns-clause-no_bytes c = refl

pub returns-clause-full : goal.returns-clause-full
unfolding header_bytes carrying
returns-clause-full c = refl

pub returns-clause-one_byte_more : goal.returns-clause-one_byte_more
unfolding header_bytes carrying
returns-clause-one_byte_more c = refl

pub returns-clause-two_sectors : goal.returns-clause-two_sectors
unfolding header_bytes carrying
returns-clause-two_sectors c = refl

pub returns-clause-read_back : goal.returns-clause-read_back
unfolding header_bytes carrying
returns-clause-read_back c = refl

pub returns-clause-one_sector : goal.returns-clause-one_sector
unfolding header_bytes carrying
returns-clause-one_sector c = refl

pub returns-clause-sectors_one_by_one : goal.returns-clause-sectors_one_by_one
unfolding header_bytes carrying
returns-clause-sectors_one_by_one c = refl
