-- The bit of a body block is set just if it is claimed or held.
use Rattle.store_laws.proofs.OpenedRead.{begins_by_bits, read_by_bits}
use Rattle.store_laws.proofs.begins.volumes_open_read.Goals as goal

pub returns-clause-may : goal.returns-clause-may
returns-clause-may c = λ g blocks hands ok sound. begins_by_bits g blocks hands ok sound

pub returns-clause-read : goal.returns-clause-read
returns-clause-read c = λ g h r. read_by_bits g h r
