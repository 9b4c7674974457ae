use Rattle.std.proofs.Common.{List, ℕ, Option, OnOk, sym, subst, ◌∙◌}
use Rattle.meta_store.specs.Changes.{numbers_in}
use Rattle.dir_reads.specs.declared.directory.Found.{Found}
use Rattle.dir_ops.specs.Opened.{GrowsByName, PutsEntry}
use Rattle.dir_ops.specs.Slots.{PutsName}
use Rattle.dir_ops.proofs.entry.enter_found.Goals as goal

pub returns-in-Some-clause-ok : goal.returns-in-Some-clause-ok
returns-in-Some-clause-ok c =
    let old = c.args.draft.now.change in
    let new = c.enter_in.new.draft.change in
    let directory = c.args.directory.now in
    let ino = c.args.i.0 in
    let puts = subst (λ (n : List ℕ). OnOk c.enter_in.result (PutsName directory c.in-Some.found n ino old new)) (c.in_ok-name.ensures ∙ c.as_slice.ensures) c.enter_in.ensures.ok in
    subst (λ (o : Option Found). OnOk c.enter_in.result (PutsEntry c.args.g.now c.args.dir.0 directory o c.args.name.now ino (numbers_in c.args.fresh.now) old new)) (sym c.in-Some.is) puts

pub returns-in-None-clause-ok : goal.returns-in-None-clause-ok
returns-in-None-clause-ok c =
    let old = c.args.draft.now.change in
    let new = c.enter_new.new.draft.change in
    let directory = c.args.directory.now in
    let ino = c.args.i.0 in
    let fresh = numbers_in c.args.fresh.now in
    let grows = subst (λ (n : List ℕ). OnOk c.enter_new.result (GrowsByName c.args.g.now c.args.dir.0 directory n ino fresh old new)) (c.in_ok-name.ensures ∙ c.as_slice.ensures) c.enter_new.ensures.ok in
    subst (λ (o : Option Found). OnOk c.enter_new.result (PutsEntry c.args.g.now c.args.dir.0 directory o c.args.name.now ino fresh old new)) (sym c.in-None.is) grows
