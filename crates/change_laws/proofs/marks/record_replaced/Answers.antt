use Rattle.std.proofs.Common.{List, Option, ap}
use Rattle.std.proofs.lemmas.List.{set-set}
use Rattle.volume_model.specs.Format.{GroupRecord}
use Rattle.change_laws.proofs.marks.record_replaced.Goals as goal

pub returns : goal.returns
returns c r n group other = ap (λ (l : List (Option GroupRecord)). record r { groups = l }) (set-set r.groups n group other)
