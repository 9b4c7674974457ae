-- A block that is live or released, and that nothing claims, is one that no version needs.
use Rattle.store_laws.proofs.FilledBlocks.{in_hand, unfreed, filled}
use Rattle.store_laws.proofs.steps.fills_are_writes.Goals as goal

pub returns-clause-write : goal.returns-clause-write
returns-clause-write c = λ g roles r j hands told b bytes safe read tells sound may given long. filled g roles r j hands told b safe read tells sound may given bytes long

pub returns-clause-hand : goal.returns-clause-hand
returns-clause-hand c = λ g roles r j hands told b safe read tells sound may given. (in_hand g roles r j hands told b safe read tells sound may given, unfreed g roles r j hands told b safe read tells sound may given)
