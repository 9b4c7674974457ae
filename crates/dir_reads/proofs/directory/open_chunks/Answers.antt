use Rattle.std.proofs.Common.{◌<◌, Option, IfSome, subst}
use Rattle.volume_model.specs.Format.{inodes_of, IsDinode}
use Rattle.meta_draft.specs.Drafted.{drafted}
use Rattle.dir_reads.specs.declared.directory.Directory.{Directory}
use Rattle.dir_reads.proofs.OpenedDirectories.{chunks_there, none_to_open}
use Rattle.dir_reads.proofs.directory.open_chunks.Goals as goal

pub returns-in-Some-clause-value : goal.returns-in-Some-clause-value
returns-in-Some-clause-value g c =
    let told = drafted c.args.draft.now.change (g.S.MetaRead.store c.args.store.now) in
    let inode = subst (λ (o : Option Directory). IfSome o (λ directory. (c.args.dir.0 < inodes_of told.geometry) × IsDinode told.geometry.version directory.dinode)) c.in-Some.is c.in_ok-directory.ensures.inode in
    chunks_there told.content told.geometry c.args.dir.0 c.in_ok-directory.field-0 c.in-Some.directory c.in-Some.is inode.0 c.in_ok-directory.ensures.value

pub returns-in-None-clause-value : goal.returns-in-None-clause-value
returns-in-None-clause-value g c =
    let told = drafted c.args.draft.now.change (g.S.MetaRead.store c.args.store.now) in
    none_to_open told.content told.geometry c.args.dir.0 c.in_ok-directory.field-0 c.nothing.result c.in-None.is c.nothing.ensures.count c.in_ok-directory.ensures.value
