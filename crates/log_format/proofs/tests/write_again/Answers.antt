use Rattle.std.proofs.Common.{rules}
use Rattle.log_laws.proofs.WholeRun.{whole_loggable}
use Rattle.log_format.proofs.tests.write_again.Goals as goal

pub write_tx-requires-clause-deltas : goal.write_tx-requires-clause-deltas
write_tx-requires-clause-deltas c = (
  record { version = 1; groups = 1; bpg = 64; ipg = 32; log = 256 },
  search rules,
  whole_loggable _ 1 c.args.payload.now c.in-Ok-Whole.deltas (rw c.in-Ok-Whole.field-0-is at c.in-Ok-Whole.ensures),
)
