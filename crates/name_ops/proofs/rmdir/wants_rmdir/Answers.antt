use Rattle.std.proofs.Common.{ℕ, not, false, List, sym, ap, subst, ◌∙◌}
use Rattle.std.specs.Option.{option_map}
use Rattle.lufs_base.specs.declared.numbers.Ino.{Ino}
use Rattle.history_model.specs.Places.{is_dots}
use Rattle.path_walk.specs.Answers.{end_of}
use Rattle.name_ops.specs.declared.wanted.Wanted.TheVariants.{Wants}
use Rattle.name_ops.proofs.OnePathPlans.{Answers}
use Rattle.name_ops.proofs.WantedRmdir.{rmdir, told_noent, told_notdir, told_denied, told_notempty, told_inval, told_wants}
use Rattle.name_ops.proofs.rmdir.wants_rmdir.Goals as goal

pub returns-in_default-clause-answer : goal.returns-in_default-clause-answer
returns-in_default-clause-answer g c =
    let told = g.S.MetaRead.store c.args.store.now in
    told_noent told.content told.geometry c.args.cred.now (end_of c.args.walked.now) (ap (option_map (λ (i : Ino). i.0)) c.in_default.is)

pub returns-then-not-directory-clause-answer : goal.returns-then-not-directory-clause-answer
returns-then-not-directory-clause-answer g c =
    let told = g.S.MetaRead.store c.args.store.now in
    told_notdir told.content told.geometry c.args.cred.now (end_of c.args.walked.now) c.in-Some.i.0 (ap (option_map (λ (i : Ino). i.0)) c.in-Some.is)
    c.in_ok-directory.directory c.in_ok-directory.ensures.value c.if-not-directory.true

pub returns-then-is_none-clause-answer : goal.returns-then-is_none-clause-answer
returns-then-is_none-clause-answer g c =
    let told = g.S.MetaRead.store c.args.store.now in
    let first = g.S.MetaRead.store c.is_directory_at.new.store in
    told_denied told.content told.geometry c.args.cred.now (end_of c.args.walked.now) c.in-Some.i.0 (ap (option_map (λ (i : Ino). i.0)) c.in-Some.is)
    c.in_ok-directory.directory c.in_ok-directory.ensures.value c.if-not-directory.false c.in_ok-record.record first.content first.geometry
    c.in_ok-directory.ensures.unchanged.content c.in_ok-directory.ensures.unchanged.geometry c.in_ok-record.ensures.value
    (c.is_none.ensures ∙ ap not c.if-is_none.true)

pub returns-then-not-empty-clause-answer : goal.returns-then-not-empty-clause-answer
returns-then-not-empty-clause-answer g c =
    let told = g.S.MetaRead.store c.args.store.now in
    let first = g.S.MetaRead.store c.is_directory_at.new.store in
    let second = g.S.MetaRead.store c.writable.new.store in
    let same_first = c.in_ok-directory.ensures.unchanged in
    let same_second = c.in_ok-record.ensures.unchanged in
    told_notempty told.content told.geometry c.args.cred.now (end_of c.args.walked.now) c.in-Some.i.0 (ap (option_map (λ (i : Ino). i.0)) c.in-Some.is)
    c.in_ok-directory.directory c.in_ok-directory.ensures.value c.if-not-directory.false c.in_ok-record.record first.content first.geometry
    same_first.content same_first.geometry c.in_ok-record.ensures.value (c.is_none.ensures ∙ ap not c.if-is_none.false)
    c.in_ok-empty.empty second.content second.geometry (same_second.content ∙ same_first.content) (same_second.geometry ∙ same_first.geometry) c.in_ok-empty.ensures.value
    c.if-not-empty.true

pub returns-then-is_dots-clause-answer : goal.returns-then-is_dots-clause-answer
returns-then-is_dots-clause-answer g c =
    let told = g.S.MetaRead.store c.args.store.now in
    let first = g.S.MetaRead.store c.is_directory_at.new.store in
    let second = g.S.MetaRead.store c.writable.new.store in
    let same_first = c.in_ok-directory.ensures.unchanged in
    let same_second = c.in_ok-record.ensures.unchanged in
    told_inval told.content told.geometry c.args.cred.now (end_of c.args.walked.now) c.in-Some.i.0 (ap (option_map (λ (i : Ino). i.0)) c.in-Some.is)
    c.in_ok-directory.directory c.in_ok-directory.ensures.value c.if-not-directory.false c.in_ok-record.record first.content first.geometry
    same_first.content same_first.geometry c.in_ok-record.ensures.value (c.is_none.ensures ∙ ap not c.if-is_none.false)
    c.in_ok-empty.empty second.content second.geometry (same_second.content ∙ same_first.content) (same_second.geometry ∙ same_first.geometry) c.in_ok-empty.ensures.value
    c.if-not-empty.false (ap is_dots (sym c.as_slice.ensures) ∙ sym c.is_dots.ensures ∙ c.if-is_dots.true)

pub returns-clause-answer : goal.returns-clause-answer
returns-clause-answer g c =
    let told = g.S.MetaRead.store c.args.store.now in
    let first = g.S.MetaRead.store c.is_directory_at.new.store in
    let second = g.S.MetaRead.store c.writable.new.store in
    let same_first = c.in_ok-directory.ensures.unchanged in
    let same_second = c.in_ok-record.ensures.unchanged in
    let p = end_of c.args.walked.now in
    subst (λ (l : List ℕ). Answers rmdir told.content told.geometry c.args.cred.now p (Wants false l 0)) (sym c.new.ensures)
    (told_wants told.content told.geometry c.args.cred.now p c.in-Some.i.0 (ap (option_map (λ (i : Ino). i.0)) c.in-Some.is)
    c.in_ok-directory.directory c.in_ok-directory.ensures.value c.if-not-directory.false c.in_ok-record.record first.content first.geometry
    same_first.content same_first.geometry c.in_ok-record.ensures.value (c.is_none.ensures ∙ ap not c.if-is_none.false)
    c.in_ok-empty.empty second.content second.geometry (same_second.content ∙ same_first.content) (same_second.geometry ∙ same_first.geometry) c.in_ok-empty.ensures.value
    c.if-not-empty.false (ap is_dots (sym c.as_slice.ensures) ∙ sym c.is_dots.ensures ∙ c.if-is_dots.false))
