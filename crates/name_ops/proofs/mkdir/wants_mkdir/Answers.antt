use Rattle.std.proofs.Common.{◌+◌, ℕ, true, List, Option, sym, subst, ◌∙◌}
use Rattle.volume_model.specs.declared.inode.Dinode.{Dinode}
use Rattle.tree_types.specs.declared.reply.Refusal.{Refusal}
use Rattle.path_walk.specs.Answers.{end_of}
use Rattle.name_ops.specs.declared.wanted.Wanted.TheVariants.{Wants}
use Rattle.name_ops.proofs.WantedCreate.{some_mapped, Writable, Blocks, Lack}
use Rattle.name_ops.proofs.WantedMkdir.{Answers, told_denied, told_there, told_linked, told_past, told_lacking, told_enough}
use Rattle.name_ops.proofs.mkdir.wants_mkdir.Goals as goal

pub returns-in_default-clause-answer : goal.returns-in_default-clause-answer
returns-in_default-clause-answer g c =
    let told = g.S.MetaRead.store c.args.store.now in
    told_denied told.content told.geometry c.args.cred.now (end_of c.args.walked.now) c.args.held.now
    (subst (λ (o : Option Dinode). Writable told.content told.geometry c.args.cred.now c.args.walked.now.dir.0 o) c.in_default.is c.in_ok-d.ensures.value)

pub returns-then-is_some-clause-answer : goal.returns-then-is_some-clause-answer
returns-then-is_some-clause-answer g c =
    let told = g.S.MetaRead.store c.args.store.now in
    told_there c.in-Some.d told.content told.geometry c.args.cred.now (end_of c.args.walked.now) c.args.held.now
    (subst (λ (o : Option Dinode). Writable told.content told.geometry c.args.cred.now c.args.walked.now.dir.0 o) c.in-Some.is c.in_ok-d.ensures.value)
    (some_mapped c.args.walked.now.found ∙ sym c.is_some.ensures ∙ c.if-is_some.true)

pub returns-in_default-2-clause-answer : goal.returns-in_default-2-clause-answer
returns-in_default-2-clause-answer g c =
    let told = g.S.MetaRead.store c.args.store.now in
    let now = g.S.MetaRead.store c.writable.new.store in
    told_past c.in-Some.d c.if-d-ge-MOST_LINKS.false told.content now.content told.geometry now.geometry c.args.cred.now (end_of c.args.walked.now) c.args.held.now
    c.in_ok-d.ensures.unchanged.content c.in_ok-d.ensures.unchanged.geometry
    (subst (λ (o : Option Dinode). Writable told.content told.geometry c.args.cred.now c.args.walked.now.dir.0 o) c.in-Some.is c.in_ok-d.ensures.value)
    (some_mapped c.args.walked.now.found ∙ sym c.is_some.ensures ∙ c.if-is_some.false)
    (subst (λ (o : Option ℕ). Blocks now.content now.geometry c.args.walked.now.dir.0 c.args.walked.now.name c.in-Some.d o) c.in_default-2.is c.in_ok-named.ensures.value)

pub returns-in-Some-3-clause-answer : goal.returns-in-Some-3-clause-answer
returns-in-Some-3-clause-answer g c =
    let told = g.S.MetaRead.store c.args.store.now in
    let now = g.S.MetaRead.store c.writable.new.store in
    let later = g.S.MetaRead.store c.name_blocks.new.store in
    told_lacking c.in-Some.d c.if-d-ge-MOST_LINKS.false c.in-Some-2.named told.content now.content later.content told.geometry now.geometry later.geometry c.args.cred.now (end_of c.args.walked.now) c.args.held.now
    c.in_ok-d.ensures.unchanged.content c.in_ok-d.ensures.unchanged.geometry
    (c.in_ok-named.ensures.unchanged.content ∙ c.in_ok-d.ensures.unchanged.content) (c.in_ok-named.ensures.unchanged.geometry ∙ c.in_ok-d.ensures.unchanged.geometry)
    (subst (λ (o : Option Dinode). Writable told.content told.geometry c.args.cred.now c.args.walked.now.dir.0 o) c.in-Some.is c.in_ok-d.ensures.value)
    (some_mapped c.args.walked.now.found ∙ sym c.is_some.ensures ∙ c.if-is_some.false)
    (subst (λ (o : Option ℕ). Blocks now.content now.geometry c.args.walked.now.dir.0 c.args.walked.now.name c.in-Some.d o) c.in-Some-2.is c.in_ok-named.ensures.value)
    c.in-Some-3.why
    (subst (λ (o : Option Refusal). Lack later.content later.geometry (c.in-Some-2.named + 1) c.args.held.now o) c.in-Some-3.is c.in_ok-why.ensures.value)

pub returns-clause-answer : goal.returns-clause-answer
returns-clause-answer g c =
    let told = g.S.MetaRead.store c.args.store.now in
    let now = g.S.MetaRead.store c.writable.new.store in
    let later = g.S.MetaRead.store c.name_blocks.new.store in
    subst (λ (l : List ℕ). Answers told.content told.geometry c.args.cred.now (end_of c.args.walked.now) c.args.held.now (Wants true l (c.in-Some-2.named + 1))) (sym c.new.ensures)
    (told_enough c.in-Some.d c.if-d-ge-MOST_LINKS.false c.in-Some-2.named told.content now.content later.content told.geometry now.geometry later.geometry c.args.cred.now (end_of c.args.walked.now) c.args.held.now
    c.in_ok-d.ensures.unchanged.content c.in_ok-d.ensures.unchanged.geometry
    (c.in_ok-named.ensures.unchanged.content ∙ c.in_ok-d.ensures.unchanged.content) (c.in_ok-named.ensures.unchanged.geometry ∙ c.in_ok-d.ensures.unchanged.geometry)
    (subst (λ (o : Option Dinode). Writable told.content told.geometry c.args.cred.now c.args.walked.now.dir.0 o) c.in-Some.is c.in_ok-d.ensures.value)
    (some_mapped c.args.walked.now.found ∙ sym c.is_some.ensures ∙ c.if-is_some.false)
    (subst (λ (o : Option ℕ). Blocks now.content now.geometry c.args.walked.now.dir.0 c.args.walked.now.name c.in-Some.d o) c.in-Some-2.is c.in_ok-named.ensures.value)
    (subst (λ (o : Option Refusal). Lack later.content later.geometry (c.in-Some-2.named + 1) c.args.held.now o) c.in_default-3.is c.in_ok-why.ensures.value))

pub returns-then-d-ge-MOST_LINKS-clause-answer : goal.returns-then-d-ge-MOST_LINKS-clause-answer
returns-then-d-ge-MOST_LINKS-clause-answer g c =
    let told = g.S.MetaRead.store c.args.store.now in
    told_linked c.in-Some.d told.content told.geometry c.args.cred.now (end_of c.args.walked.now) c.args.held.now
    (subst (λ (o : Option Dinode). Writable told.content told.geometry c.args.cred.now c.args.walked.now.dir.0 o) c.in-Some.is c.in_ok-d.ensures.value)
    (some_mapped c.args.walked.now.found ∙ sym c.is_some.ensures ∙ c.if-is_some.false) c.if-d-ge-MOST_LINKS.true
