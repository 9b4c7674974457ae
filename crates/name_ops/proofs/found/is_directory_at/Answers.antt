use Rattle.std.proofs.Common.{Option, subst}
use Rattle.volume_model.specs.declared.inode.Dinode.{Dinode}
use Rattle.name_ops.proofs.AskedStores.{IsReadByTree}
use Rattle.name_ops.proofs.WantedRemove.{told_no_directory, told_directory}
use Rattle.name_ops.proofs.found.is_directory_at.Goals as goal

pub returns-in_default-clause-value : goal.returns-in_default-clause-value
returns-in_default-clause-value g c =
    let told = g.S.MetaRead.store c.args.store.now in
    told_no_directory told.content told.geometry c.args.i.0 (subst (λ (o : Option Dinode). IsReadByTree told.content told.geometry c.args.i.0 o) c.in_default.is c.in_ok-d.ensures.tree)

pub returns-clause-value : goal.returns-clause-value
returns-clause-value g c =
    let told = g.S.MetaRead.store c.args.store.now in
    told_directory told.content told.geometry c.args.i.0 c.in-Some.d c.is_directory.result (λ tree is. c.is_directory.ensures.tree told.geometry tree c.args.i.0 is)
    (subst (λ (o : Option Dinode). IsReadByTree told.content told.geometry c.args.i.0 o) c.in-Some.is c.in_ok-d.ensures.tree)
