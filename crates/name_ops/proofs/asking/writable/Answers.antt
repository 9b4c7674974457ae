use Rattle.std.proofs.Common.{Option, subst}
use Rattle.volume_model.specs.declared.inode.Dinode.{Dinode}
use Rattle.name_ops.proofs.AskedStores.{IsReadByTree, none_writable, denied_writable, some_writable}
use Rattle.name_ops.proofs.asking.writable.Goals as goal

pub returns-in_default-clause-value : goal.returns-in_default-clause-value
returns-in_default-clause-value g c =
    let told = g.S.MetaRead.store c.args.store.now in
    none_writable told.content told.geometry c.args.cred.now c.args.dir.0 (subst (λ (o : Option Dinode). IsReadByTree told.content told.geometry c.args.dir.0 o) c.in_default.is c.in_ok-d.ensures.tree)

pub returns-then-not-may-clause-value : goal.returns-then-not-may-clause-value
returns-then-not-may-clause-value g c =
    let told = g.S.MetaRead.store c.args.store.now in
    denied_writable told.content told.geometry c.args.cred.now c.args.dir.0 c.in-Some.d c.may.result c.if-not-may.true (λ tree is. c.may.ensures.tree told.geometry tree c.args.dir.0 is)
    (subst (λ (o : Option Dinode). IsReadByTree told.content told.geometry c.args.dir.0 o) c.in-Some.is c.in_ok-d.ensures.tree)

pub returns-clause-value : goal.returns-clause-value
returns-clause-value g c =
    let told = g.S.MetaRead.store c.args.store.now in
    some_writable told.content told.geometry c.args.cred.now c.args.dir.0 c.in-Some.d c.may.result c.if-not-may.false (λ tree is. c.may.ensures.tree told.geometry tree c.args.dir.0 is)
    (subst (λ (o : Option Dinode). IsReadByTree told.content told.geometry c.args.dir.0 o) c.in-Some.is c.in_ok-d.ensures.tree)
