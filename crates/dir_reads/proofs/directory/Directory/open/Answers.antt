use Rattle.std.proofs.Common.{◌≡◌, true, false, sym, ap, ◌∙◌}
use Rattle.std.specs.Prelude.{nat_lt}
use Rattle.std.specs.Option.{option_map}
use Rattle.std.proofs.lemmas.Bool.{ltb-true, ltb-false}
use Rattle.lufs_base.specs.declared.geometry.Geometry.{Geometry}
use Rattle.volume_model.specs.Format.{inodes_of}
use Rattle.meta_store.specs.Changes.{changed}
use Rattle.meta_draft.specs.Drafted.{drafted}
use Rattle.dir_reads.proofs.OpenedDirectories.{none_past, none_there, of_record}
use Rattle.dir_reads.proofs.directory.Directory.open.Goals as goal

pub returns-then-not-is_inode-clause-value : goal.returns-then-not-is_inode-clause-value
returns-then-not-is_inode-clause-value g c =
    let told = drafted c.args.draft.now.change (g.S.MetaRead.store c.args.store.now) in
    let test : nat_lt c.args.dir.0 (inodes_of told.geometry) ≡ false =
    ap (λ (h : Geometry). nat_lt c.args.dir.0 (inodes_of h)) (sym c.geometry.ensures.value) ∙ sym c.is_inode.ensures ∙ c.if-not-is_inode.true in
    none_past told.content told.geometry c.args.dir.0 (ltb-false c.args.dir.0 (inodes_of told.geometry) test)

pub returns-in-Some-clause-value : goal.returns-in-Some-clause-value
returns-in-Some-clause-value g c =
    let change = c.args.draft.now.change in
    let told = drafted change (g.S.MetaRead.store c.args.store.now) in
    let now = drafted change (g.S.MetaRead.store c.directory_record.new.store) in
    let test : nat_lt c.args.dir.0 (inodes_of told.geometry) ≡ true =
    ap (λ (h : Geometry). nat_lt c.args.dir.0 (inodes_of h)) (sym c.geometry.ensures.value) ∙ sym c.is_inode.ensures ∙ c.if-not-is_inode.false in
    of_record told.content now.content told.geometry now.geometry c.args.dir.0 c.in_ok-dinode.field-0 c.in-Some.dinode c.with_record.result
    (ltb-true c.args.dir.0 (inodes_of told.geometry) test) c.in-Some.is c.in_ok-dinode.ensures.unchanged.geometry (ap (option_map (changed change)) c.in_ok-dinode.ensures.unchanged.content)
    c.in_ok-dinode.ensures.value c.with_record.ensures.value

pub returns-in-None-clause-value : goal.returns-in-None-clause-value
returns-in-None-clause-value g c =
    let told = drafted c.args.draft.now.change (g.S.MetaRead.store c.args.store.now) in
    let test : nat_lt c.args.dir.0 (inodes_of told.geometry) ≡ true =
    ap (λ (h : Geometry). nat_lt c.args.dir.0 (inodes_of h)) (sym c.geometry.ensures.value) ∙ sym c.is_inode.ensures ∙ c.if-not-is_inode.false in
    none_there told.content told.geometry c.args.dir.0 c.in_ok-dinode.field-0 (ltb-true c.args.dir.0 (inodes_of told.geometry) test) c.in-None.is c.in_ok-dinode.ensures.value
