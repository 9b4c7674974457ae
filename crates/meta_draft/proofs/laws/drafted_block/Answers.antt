use Rattle.meta_draft.proofs.DraftSteps.{block_of_changed}
use Rattle.meta_draft.proofs.laws.drafted_block.Goals as goal

pub returns : goal.returns
returns c = λ change image b inside raw. block_of_changed image change b inside raw
