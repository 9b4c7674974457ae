use Rattle.std.proofs.Common.{Option, subst}
use Rattle.history_model.specs.Edits.{Enter, edited}
use Rattle.meta_store.specs.Changes.{numbers_in}
use Rattle.dir_reads.specs.declared.directory.Directory.{Directory}
use Rattle.dir_ops.proofs.ToldEdits.{IsReadAs}
use Rattle.dir_ops.proofs.ToldEntries.{told_no_directory, told_with}
use Rattle.dir_ops.proofs.entry.enter_some.Goals as goal

pub returns-in-None-clause-drawn : goal.returns-in-None-clause-drawn
returns-in-None-clause-drawn g c =
    let told = g.S.MetaRead.store c.args.store.now in
    let old = c.args.draft.now.change in
    told_no_directory told.content told.geometry old c.args.dir.0 c.args.name.now (numbers_in c.args.fresh.now) (edited (Enter c.args.dir.0 c.args.name.now c.args.i.0))
    (subst (λ (o : Option Directory). IsReadAs told.content told.geometry old c.args.dir.0 o) c.in-None.is c.in_ok-directory.ensures.value)

pub returns-in-Some-clause-drawn : goal.returns-in-Some-clause-drawn
returns-in-Some-clause-drawn g c =
    let told = g.S.MetaRead.store c.args.store.now in
    let now = g.S.MetaRead.store c.open.new.store in
    let old = c.args.draft.now.change in
    told_with told.content now.content told.geometry now.geometry old c.enter_in_directory.new.draft.change c.args.dir.0 c.args.name.now (numbers_in c.args.fresh.now)
    (edited (Enter c.args.dir.0 c.args.name.now c.args.i.0)) c.in-Some.directory c.enter_in_directory.result c.in_ok-directory.ensures.unchanged.content c.in_ok-directory.ensures.unchanged.geometry
    (subst (λ (o : Option Directory). IsReadAs told.content told.geometry old c.args.dir.0 o) c.in-Some.is c.in_ok-directory.ensures.value)
    c.enter_in_directory.ensures.drawn
