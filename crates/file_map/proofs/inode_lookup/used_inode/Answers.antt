use Rattle.std.proofs.Common.{◌≡◌, true, false, sym, ap, ◌∙◌}
use Rattle.std.specs.Prelude.{nat_lt}
use Rattle.std.proofs.lemmas.Bool.{ltb-true, ltb-false}
use Rattle.lufs_base.specs.declared.geometry.Geometry.{Geometry}
use Rattle.volume_model.specs.Format.{inodes_of}
use Rattle.meta_draft.specs.Drafted.{drafted}
use Rattle.file_map.proofs.FoundInodes.{read_is, unused_past}
use Rattle.file_map.proofs.inode_lookup.used_inode.Goals as goal

pub returns-then-not-is_inode-clause-value : goal.returns-then-not-is_inode-clause-value
returns-then-not-is_inode-clause-value g c =
    let told = drafted c.args.draft.now.change (g.S.MetaRead.store c.args.store.now) in
    let test : nat_lt c.args.i.0 (inodes_of told.geometry) ≡ false =
    ap (λ (h : Geometry). nat_lt c.args.i.0 (inodes_of h)) (sym c.geometry.ensures.value) ∙ sym c.is_inode.ensures ∙ c.if-not-is_inode.true in
    unused_past told.content told.geometry c.args.i.0 (ltb-false c.args.i.0 (inodes_of told.geometry) test)

pub returns-clause-value : goal.returns-clause-value
returns-clause-value g c =
    let told = drafted c.args.draft.now.change (g.S.MetaRead.store c.args.store.now) in
    let test : nat_lt c.args.i.0 (inodes_of told.geometry) ≡ true =
    ap (λ (h : Geometry). nat_lt c.args.i.0 (inodes_of h)) (sym c.geometry.ensures.value) ∙ sym c.is_inode.ensures ∙ c.if-not-is_inode.false in
    read_is told.content told.geometry c.args.i.0 c.in_ok-found.found (ltb-true c.args.i.0 (inodes_of told.geometry) test) c.in_ok-found.ensures.read.value
