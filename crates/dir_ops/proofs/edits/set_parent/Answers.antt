use Rattle.std.proofs.Common.{ℕ, List, subst}
use Rattle.history_model.specs.Edits.{Point, edited}
use Rattle.dir_ops.specs.Edits.{IsEdited}
use Rattle.dir_ops.proofs.edits.set_parent.Goals as goal

pub returns-clause-drawn : goal.returns-clause-drawn
unfolding edited
returns-clause-drawn g c = λ some.
    subst (λ (name : List ℕ). IsEdited (g.S.MetaRead.store c.args.store.now) c.args.draft.now.change c.replace.new.draft.change c.args.dir.0 (edited (Point c.args.dir.0 name c.args.parent.0)) c.replace.result)
    c.in_ok-name.ensures (c.replace.ensures.drawn some)
