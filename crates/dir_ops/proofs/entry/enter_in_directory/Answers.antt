use Rattle.std.proofs.Common.{subst}
use Rattle.lufs_base.specs.declared.geometry.Geometry.{Geometry}
use Rattle.meta_store.specs.Changes.{numbers_in}
use Rattle.dir_ops.specs.Opened.{PutsEntry}
use Rattle.dir_ops.proofs.ToldEntries.{told_entry}
use Rattle.dir_ops.proofs.entry.enter_in_directory.Goals as goal

pub returns-clause-drawn : goal.returns-clause-drawn
returns-clause-drawn g c =
    let told = g.S.MetaRead.store c.args.store.now in
    let old = c.args.draft.now.change in
    let new = c.enter_found.new.draft.change in
    let fresh = numbers_in c.args.fresh.now in
    let directory = c.args.directory.now in
    let found = c.in_ok-found.found in
    told_entry told.content told.geometry old new c.args.dir.0 c.args.i.0 c.args.name.now fresh directory found c.requires.inside c.requires.inode c.in_ok-found.ensures.value c.in_ok-found.ensures.found
    (subst (λ (h : Geometry). PutsEntry h c.args.dir.0 directory found c.args.name.now c.args.i.0 fresh old new) c.geometry.ensures.value c.in_ok-enter_found.ensures.ok)
