use Rattle.std.proofs.Common.{◌≡◌, true, false, None, IfSome, sym, ap, ◌∙◌, subst}
use Rattle.std.specs.Prelude.{nat_lt}
use Rattle.std.proofs.lemmas.Bool.{ltb-true, ltb-false}
use Rattle.lufs_base.specs.declared.geometry.Geometry.{Geometry}
use Rattle.volume_model.specs.Format.{Image, inodes_of}
use Rattle.meta_store.specs.Changes.{changed}
use Rattle.meta_store.specs.declared.change.Change.{Change}
use Rattle.volume_model.specs.Format.{block}
use Rattle.volume_model.specs.Sound.{inode_at}
use Rattle.std.specs.Option.{option_map, option_flatten}
use Rattle.inode_reads.proofs.ReadInodes.{read_is, unused_past, by_tree}
use Rattle.inode_reads.proofs.read.read_inode.Goals as goal

pub returns-then-not-is_inode-clause-record : goal.returns-then-not-is_inode-clause-record
returns-then-not-is_inode-clause-record g c =
    let told = g.S.MetaRead.store c.args.store.now in
    let test : nat_lt c.args.i.0 (inodes_of told.geometry) ≡ false =
    ap (λ (h : Geometry). nat_lt c.args.i.0 (inodes_of h)) (sym c.geometry.ensures.value) ∙ sym c.is_inode.ensures ∙ c.if-not-is_inode.true in
    unused_past told.content told.geometry c.args.i.0 (ltb-false c.args.i.0 (inodes_of told.geometry) test)

pub returns-then-not-is_inode-clause-tree : goal.returns-then-not-is_inode-clause-tree
returns-then-not-is_inode-clause-tree g c =
    let told = g.S.MetaRead.store c.args.store.now in
    by_tree told.content told.geometry c.args.i.0 None (g.met.S.MetaRead.size c.args.store.now) (returns-then-not-is_inode-clause-record g c)

pub returns-clause-record : goal.returns-clause-record
returns-clause-record g c =
    let told = g.S.MetaRead.store c.args.store.now in
    let found = c.in_ok-found.found in
    let test : nat_lt c.args.i.0 (inodes_of told.geometry) ≡ true =
    ap (λ (h : Geometry). nat_lt c.args.i.0 (inodes_of h)) (sym c.geometry.ensures.value) ∙ sym c.is_inode.ensures ∙ c.if-not-is_inode.false in
    let read = subst (λ (change : Change). IfSome (option_map (changed change) told.content) (λ (image : Image). found ≡ option_flatten (inode_at told.geometry (block image) c.args.i.0)))
    c.new-draft.ensures c.in_ok-found.ensures.read.value in
    read_is told.content told.geometry c.args.i.0 found (ltb-true c.args.i.0 (inodes_of told.geometry) test) read

pub returns-clause-tree : goal.returns-clause-tree
returns-clause-tree g c =
    let told = g.S.MetaRead.store c.args.store.now in
    by_tree told.content told.geometry c.args.i.0 c.in_ok-found.found (g.met.S.MetaRead.size c.args.store.now) (returns-clause-record g c)
