use Rattle.log_format.proofs.ReaderSteps.{total_whole, total_short}
use Rattle.log_format.proofs.run_reader.RunReader.total.Goals as goal

pub returns-then-self : goal.returns-then-self
returns-then-self c = λ g read has. total_whole g read c.args.self.now has (cc)

pub returns-else-self : goal.returns-else-self
returns-else-self c = λ g read has. total_short g read c.args.self.now has (cc)
