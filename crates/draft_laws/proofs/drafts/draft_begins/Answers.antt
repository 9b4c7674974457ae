use Rattle.draft_laws.proofs.Ends.{draft_begun, nothing_drafted, links_of_tree}
use Rattle.draft_laws.proofs.drafts.draft_begins.Goals as goal

pub returns-clause-draft : goal.returns-clause-draft
returns-clause-draft c = draft_begun

pub returns-clause-content : goal.returns-clause-content
returns-clause-content c = nothing_drafted

pub returns-clause-links : goal.returns-clause-links
returns-clause-links c = links_of_tree
