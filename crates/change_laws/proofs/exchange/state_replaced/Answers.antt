use Rattle.std.proofs.Common.{List, ap}
use Rattle.std.proofs.lemmas.List.{set-set}
use Rattle.volume_model.specs.Sound.{InodeState}
use Rattle.change_laws.proofs.exchange.state_replaced.Goals as goal

pub returns : goal.returns
returns c r i state other = ap (λ (l : List InodeState). record r { inodes = l }) (set-set r.inodes i state other)
