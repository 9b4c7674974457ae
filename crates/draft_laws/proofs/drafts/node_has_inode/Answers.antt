use Rattle.meta_draft.specs.Drafted.{drafted_blocks}
use Rattle.draft_laws.proofs.Ends.{node_has_inode}
use Rattle.draft_laws.proofs.drafts.node_has_inode.Goals as goal

pub returns : goal.returns
returns c g base taken change hands i node draft stands = node_has_inode g (drafted_blocks change base) hands i node draft.geometry draft.stored stands
