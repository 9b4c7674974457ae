use Rattle.std.proofs.Common.{List, ℕ, subst}
use Rattle.meta_draft.specs.Drafted.{drafted}
use Rattle.history_model.specs.Walk.{walk_of}
use Rattle.path_walk.specs.Answers.{AnswersWalk, HoldsOfTree}
use Rattle.path_walk.proofs.WalksAnswered.{with_no_change}
use Rattle.path_walk.proofs.walking.walk.Goals as goal

pub returns-clause-value : goal.returns-clause-value
returns-clause-value g c =
    with_no_change (λ tree. AnswersWalk (walk_of tree c.args.cred.now c.args.path.now c.args.follow) c.walk_in.result) c.new-draft.result.change (g.S.MetaRead.store c.args.store.now) c.new-draft.ensures
    (subst (λ (bytes : List ℕ). HoldsOfTree (drafted c.new-draft.result.change (g.S.MetaRead.store c.args.store.now)) (λ tree. AnswersWalk (walk_of tree c.args.cred.now bytes c.args.follow) c.walk_in.result))
    c.as_slice.ensures c.walk_in.ensures.value)
