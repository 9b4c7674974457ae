use Rattle.std.proofs.Common.{◌<◌, ℕ, Option, IfSome, subst}
use Rattle.std.specs.Option.{option_map}
use Rattle.lufs_base.specs.declared.numbers.Ino.{Ino}
use Rattle.volume_model.specs.Format.{inodes_of, IsDinode}
use Rattle.dir_reads.specs.declared.directory.Directory.{Directory}
use Rattle.dir_ops.specs.Edits.{with_slot_changed}
use Rattle.dir_ops.proofs.ToldEdits.{IsReadAs, told_none, told_opened}
use Rattle.dir_ops.proofs.edits.change_slot.Goals as goal

pub returns-in-None-clause-drawn : goal.returns-in-None-clause-drawn
returns-in-None-clause-drawn g c =
    let told = g.S.MetaRead.store c.args.store.now in
    let old = c.args.draft.now.change in
    told_none told.content told.geometry old c.args.dir.0 c.args.name.now (option_map (λ (i : Ino). i.0) c.args.to)
    (subst (λ (o : Option Directory). IsReadAs told.content told.geometry old c.args.dir.0 o) c.in-None.is c.in_ok-directory.ensures.value)

pub returns-in-Some-clause-drawn : goal.returns-in-Some-clause-drawn
returns-in-Some-clause-drawn g c =
    let told = g.S.MetaRead.store c.args.store.now in
    let now = g.S.MetaRead.store c.open.new.store in
    let old = c.args.draft.now.change in
    let to = option_map (λ (i : Ino). i.0) c.args.to in
    let inode = subst (λ (o : Option Directory). IfSome o (λ directory. (c.args.dir.0 < inodes_of told.geometry) × IsDinode told.geometry.version directory.dinode)) c.in-Some.is c.in_ok-directory.ensures.inode in
    told_opened told.content now.content told.geometry now.geometry old c.change_in_directory.new.draft.change c.args.dir.0 (λ (i : ℕ). with_slot_changed i c.args.name.now to) c.in-Some.directory
    c.change_in_directory.result inode.0 c.in_ok-directory.ensures.unchanged.content c.in_ok-directory.ensures.unchanged.geometry
    (subst (λ (o : Option Directory). IsReadAs told.content told.geometry old c.args.dir.0 o) c.in-Some.is c.in_ok-directory.ensures.value)
    c.change_in_directory.ensures.drawn
