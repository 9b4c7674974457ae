use Rattle.std.proofs.Common.{◌≡◌, ◌<◌, true, Option, IfSome, subst}
use Rattle.std.specs.Option.{option_map}
use Rattle.lufs_base.specs.declared.numbers.Ino.{Ino}
use Rattle.dir_reads.specs.Directories.{serves}
use Rattle.dir_reads.specs.declared.directory.Found.{Found}
use Rattle.dir_reads.specs.declared.directory.Wanted.TheVariants.{Named}
use Rattle.dir_ops.proofs.ToldEdits.{IsFoundAs, told_unnamed, told_slot}
use Rattle.dir_ops.proofs.edits.change_in_directory.Goals as goal

pub returns-in_default-clause-drawn : goal.returns-in_default-clause-drawn
returns-in_default-clause-drawn g c =
    let told = g.S.MetaRead.store c.args.store.now in
    let old = c.args.draft.now.change in
    told_unnamed told.content told.geometry old c.args.name.now (option_map (λ (i : Ino). i.0) c.args.to) c.args.directory.now
    (subst (λ (o : Option Found). IsFoundAs told.content old c.args.name.now c.args.directory.now o) c.in_default.is c.in_ok-found.ensures.value)

pub returns-clause-drawn : goal.returns-clause-drawn
returns-clause-drawn g c =
    let told = g.S.MetaRead.store c.args.store.now in
    let old = c.args.draft.now.change in
    let name = c.args.name.now in
    let directory = c.args.directory.now in
    let first = subst (λ (o : Option Found). IfSome o (λ f. (f.place < directory.opened.count) × (serves Named name f.chunk ≡ true))) c.in-Some.is c.in_ok-found.ensures.found in
    told_slot told.content told.geometry old c.change_in.new.draft.change name (option_map (λ (i : Ino). i.0) c.args.to) directory c.in-Some.found
    (subst (λ (o : Option Found). IsFoundAs told.content old name directory o) c.in-Some.is c.in_ok-found.ensures.value)
    first.0 first.1 c.in_ok-change_in.ensures.ok
