use Rattle.draft_laws.proofs.Ends.{follows_at_end, stands_at_end, holds_none}
use Rattle.draft_laws.proofs.drafts.draft_ends.Goals as goal

pub returns-clause-follows : goal.returns-clause-follows
returns-clause-follows c = follows_at_end

pub returns-clause-stands : goal.returns-clause-stands
returns-clause-stands c g base taken change hands tree draft = stands_at_end g base taken change hands draft tree

pub returns-clause-applies : goal.returns-clause-applies
returns-clause-applies c change told released recorded room follows =
    record { taken = released; deltas = recorded.deltas; cancels = recorded.cancels; raw = recorded.raw; room = room; content = follows }

pub returns-clause-held : goal.returns-clause-held
returns-clause-held c = holds_none
