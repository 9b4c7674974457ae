use Rattle.std.proofs.Common.{ℕ, not, false, List, sym, ap, subst, ◌∙◌}
use Rattle.std.specs.Option.{option_map}
use Rattle.lufs_base.specs.declared.numbers.Ino.{Ino}
use Rattle.path_walk.specs.Answers.{end_of}
use Rattle.name_ops.specs.declared.wanted.Wanted.TheVariants.{Wants}
use Rattle.name_ops.proofs.OnePathPlans.{Answers}
use Rattle.name_ops.proofs.WantedRemove.{remove, told_noent, told_denied, told_isdir, told_wants}
use Rattle.name_ops.proofs.remove.wants_remove.Goals as goal

pub returns-in_default-clause-answer : goal.returns-in_default-clause-answer
returns-in_default-clause-answer g c =
    let told = g.S.MetaRead.store c.args.store.now in
    told_noent told.content told.geometry c.args.cred.now (end_of c.args.walked.now) (ap (option_map (λ (i : Ino). i.0)) c.in_default.is)

pub returns-then-is_none-clause-answer : goal.returns-then-is_none-clause-answer
returns-then-is_none-clause-answer g c =
    let told = g.S.MetaRead.store c.args.store.now in
    told_denied c.in_ok-record.record c.in-Some.i.0 told.content told.geometry c.args.cred.now (end_of c.args.walked.now) (ap (option_map (λ (i : Ino). i.0)) c.in-Some.is) c.in_ok-record.ensures.value
    (c.is_none.ensures ∙ ap not c.if-is_none.true)

pub returns-then-directory-clause-answer : goal.returns-then-directory-clause-answer
returns-then-directory-clause-answer g c =
    let told = g.S.MetaRead.store c.args.store.now in
    let now = g.S.MetaRead.store c.writable.new.store in
    told_isdir c.in_ok-record.record c.in-Some.i.0 told.content now.content told.geometry now.geometry c.args.cred.now (end_of c.args.walked.now)
    c.in_ok-record.ensures.unchanged.content c.in_ok-record.ensures.unchanged.geometry (ap (option_map (λ (i : Ino). i.0)) c.in-Some.is) c.in_ok-record.ensures.value
    (c.is_none.ensures ∙ ap not c.if-is_none.false) c.in_ok-directory.directory c.if-directory.true c.in_ok-directory.ensures.value

pub returns-clause-answer : goal.returns-clause-answer
returns-clause-answer g c =
    let told = g.S.MetaRead.store c.args.store.now in
    let now = g.S.MetaRead.store c.writable.new.store in
    let p = end_of c.args.walked.now in
    subst (λ (l : List ℕ). Answers remove told.content told.geometry c.args.cred.now p (Wants false l 0)) (sym c.new.ensures)
    (told_wants c.in_ok-record.record c.in-Some.i.0 told.content now.content told.geometry now.geometry c.args.cred.now p
    c.in_ok-record.ensures.unchanged.content c.in_ok-record.ensures.unchanged.geometry (ap (option_map (λ (i : Ino). i.0)) c.in-Some.is) c.in_ok-record.ensures.value
    (c.is_none.ensures ∙ ap not c.if-is_none.false) c.in_ok-directory.directory c.if-directory.false c.in_ok-directory.ensures.value)
