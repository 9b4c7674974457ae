use Rattle.change_laws.proofs.ExchangeRules.{exchange_stored, still_laid}
use Rattle.change_laws.proofs.exchange.exchanged.Goals as goal

pub returns-clause-stored : goal.returns-clause-stored
returns-clause-stored c = exchange_stored

pub returns-clause-laid : goal.returns-clause-laid
returns-clause-laid c g r i state hands others stored within exchanged = still_laid g r i state hands others within exchanged stored
