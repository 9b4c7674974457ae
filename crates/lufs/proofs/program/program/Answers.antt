use Rattle.std.proofs.Common.{sym}
use Rattle.lufs.proofs.program.program.Goals as goal

pub returns-in-Ok-clause-ran : goal.returns-in-Ok-clause-ran
returns-in-Ok-clause-ran g c = rw (c.in-Ok.is, c.from.ensures, sym c.deref.ensures.value, sym c.words.ensures) c.run.ensures.ran
