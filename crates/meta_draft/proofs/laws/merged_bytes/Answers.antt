use Rattle.std.proofs.Common.{arith}
use Rattle.meta_draft.proofs.MergedBytes.{merged_no_longer}
use Rattle.meta_draft.proofs.laws.merged_bytes.Goals as goal

pub returns : goal.returns
returns c = λ deltas d. omega (arith, merged_no_longer deltas d)
