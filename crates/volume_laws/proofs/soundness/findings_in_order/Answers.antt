use Rattle.volume_laws.proofs.SoundRules.{no_rule_broken, found_broken, found_lowest, found_first}
use Rattle.volume_laws.proofs.soundness.findings_in_order.Goals as goal

pub returns-clause-none : goal.returns-clause-none
returns-clause-none c = no_rule_broken

pub returns-clause-broken : goal.returns-clause-broken
returns-clause-broken c = found_broken

pub returns-clause-lowest : goal.returns-clause-lowest
returns-clause-lowest c = found_lowest

pub returns-clause-first : goal.returns-clause-first
returns-clause-first c = found_first
