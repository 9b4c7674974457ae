use Rattle.std.proofs.Common.{◌≡◌, false, not, ◌&&◌, ap}
use Rattle.std.specs.Option.{option_map}
use Rattle.std.proofs.lemmas.Bool.{and_left, and_right}
use Rattle.lufs_base.specs.declared.Ino.{Ino}
use Rattle.meta_draft.specs.Drafted.{drafted}
use Rattle.path_walk.proofs.TreeFacts.{of_one}
use Rattle.path_walk.proofs.StepFacts.{link_followed}
use Rattle.path_walk.proofs.steps.next_step.Goals.{else-last-2-via-then-last-2+else-not-follow, else-last-2-via-else-last-2}
use Rattle.path_walk.proofs.steps.next_step.Goals as goal

pub returns-in-Some-2-clause-value : goal.returns-in-Some-2-clause-value
returns-in-Some-2-clause-value g c =
    let told = drafted c.args.draft.now.change (g.S.MetaRead.store c.args.store.now) in
    let goes : (c.args.last && not c.args.follow) ≡ false = elim c.else-last-2.branch [
      | else-last-2-via-then-last-2+else-not-follow w ↦ and_right c.args.last (not c.args.follow) (ap not w.if-not-follow.false)
      | else-last-2-via-else-last-2 w ↦ and_left c.args.last (not c.args.follow) w.if-last-2.false
    ] in
    let value = rw c.in-Some-2.is at c.in_ok-text.ensures.value in
    of_one told.content told.geometry (λ tree is.
    link_followed tree c.args.last c.args.follow c.in-Some.i.0 c.in-Some-2.text.items (option_map (λ (i : Ino). i.0) c.args.found)
    (ap (option_map (λ (i : Ino). i.0)) c.in-Some.is) goes is) value
