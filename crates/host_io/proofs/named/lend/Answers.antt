use Rattle.host_io.proofs.NamedLemmas.{on_some}
use Rattle.host_io.proofs.named.lend.Goals as goal

pub returns-in-Ok-clause-some : goal.returns-in-Ok-clause-some
returns-in-Ok-clause-some g c = on_some c.in-Ok.held _ c.in-Ok.ensures.new
