use Rattle.std.proofs.Common.{None, false, refl}
use Rattle.log_format.proofs.ReaderSteps.{nothing_read}
use Rattle.log_format.proofs.run_reader.RunReader.new.Goals as goal

pub returns-clause-read : goal.returns-clause-read
returns-clause-read c =
    λ g. nothing_read g (record { tid = c.args.tid; tally = record { deltas = 0; bytes = 0; last = None }; kept = c.new.result; committed = false }) c.new.ensures.items refl refl refl refl
