use Rattle.std.proofs.Common.{◌≡◌, ℕ, Bool, sym, subst}
use Rattle.draft_laws.specs.Drafts.{IsDraft}
use Rattle.draft_laws.proofs.FreedInode.{hands_alike}
use Rattle.draft_laws.proofs.freeing.draft_alike.Goals as goal

pub returns-clause-hands : goal.returns-clause-hands
returns-clause-hands c = hands_alike

pub returns-clause-taken : goal.returns-clause-taken
returns-clause-taken c g base taken other change hands same draft =
    let all : taken ≡ other = λ t b. sym (same b) t in
    subst (λ (test : ℕ → Bool). IsDraft g base test change hands) all draft
