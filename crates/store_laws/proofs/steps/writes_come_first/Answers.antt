-- Nothing is laid over the block of a write in place.
use Rattle.store_laws.proofs.WritesFirst.{raw_may, rest_may}
use Rattle.store_laws.proofs.steps.writes_come_first.Goals as goal

pub returns-clause-may : goal.returns-clause-may
returns-clause-may c = λ g roles r j hands after told change w more safe may is set. raw_may g roles r j hands after told change w more safe may is set

pub returns-clause-rest : goal.returns-clause-rest
returns-clause-rest c = λ g roles r j hands after told change w more safe may is raw. rest_may g roles r j hands after told change w more safe may is raw
