-- What a draft owes a store, and what it stands for.
use Rattle.store_laws.proofs.DraftsMade.{draft_is_change}
use Rattle.store_laws.proofs.begins.drafts_are_changes.Goals as goal

pub returns : goal.returns
returns c = λ g roles r j hands after told change tree read tells sound draft none is right links released room.
    draft_is_change g roles r j hands after told change tree read tells sound draft none is right links released room
