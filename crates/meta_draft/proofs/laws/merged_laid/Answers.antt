use Rattle.meta_draft.proofs.LaidTogether.{laid_together}
use Rattle.meta_draft.proofs.laws.merged_laid.Goals as goal

pub returns : goal.returns
returns c = λ g deltas d image are table bytes beside lays. laid_together g deltas d image are (record { table = table; bytes = bytes }) beside lays
