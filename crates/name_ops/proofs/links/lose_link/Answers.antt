use Rattle.std.proofs.Common.{ℕ, Option, Some, IfSome, sym, ap, subst, ◌∙◌}
use Rattle.std.specs.Prelude.{nat_lt}
use Rattle.std.proofs.lemmas.Bool.{ltb-true}
use Rattle.lufs_base.specs.declared.geometry.Geometry.{Geometry}
use Rattle.volume_model.specs.declared.inode.Dinode.{Dinode}
use Rattle.volume_model.specs.Format.{inodes_of, IsDinode, dinode_bytes}
use Rattle.meta_store.specs.Deltas.{inode_delta}
use Rattle.meta_draft.specs.Drafted.{with_delta}
use Rattle.name_ops.proofs.LostLinks.{IsRecordRead, told_past, told_unused, told_less}
use Rattle.name_ops.proofs.links.lose_link.Goals as goal

pub returns-then-not-is_inode-clause-drawn : goal.returns-then-not-is_inode-clause-drawn
returns-then-not-is_inode-clause-drawn g c =
    let told = g.S.MetaRead.store c.args.store.now in
    told_past told.content told.geometry c.args.draft.now.change c.args.i.0
    (ap (λ (h : Geometry). nat_lt c.args.i.0 (inodes_of h)) (sym c.geometry.ensures.value) ∙ sym c.is_inode.ensures ∙ c.if-not-is_inode.true)

pub returns-in_default-clause-drawn : goal.returns-in_default-clause-drawn
returns-in_default-clause-drawn g c =
    let told = g.S.MetaRead.store c.args.store.now in
    let old = c.args.draft.now.change in
    let inside = ap (λ (h : Geometry). nat_lt c.args.i.0 (inodes_of h)) (sym c.geometry.ensures.value) ∙ sym c.is_inode.ensures ∙ c.if-not-is_inode.false in
    told_unused told.content told.geometry old c.args.i.0 (ltb-true c.args.i.0 (inodes_of told.geometry) inside)
    (subst (λ (o : Option Dinode). IsRecordRead told.content told.geometry old c.args.i.0 o) c.in_default.is c.in_ok-d.ensures.read.value)

pub returns-clause-drawn : goal.returns-clause-drawn
returns-clause-drawn g c =
    let told = g.S.MetaRead.store c.args.store.now in
    let old = c.args.draft.now.change in
    let d = c.in-Some.d in
    let inside = ap (λ (h : Geometry). nat_lt c.args.i.0 (inodes_of h)) (sym c.geometry.ensures.value) ∙ sym c.is_inode.ensures ∙ c.if-not-is_inode.false in
    told_less told.content told.geometry c.geometry.result.now old c.put_inode.new.self.change c.args.i.0 d c.geometry.ensures.value
    (ltb-true c.args.i.0 (inodes_of told.geometry) inside)
    (subst (λ (o : Option Dinode). IsRecordRead told.content told.geometry old c.args.i.0 o) c.in-Some.is c.in_ok-d.ensures.read.value)
    (subst (λ (o : Option Dinode). IfSome o (IsDinode told.geometry.version)) c.in-Some.is c.in_ok-d.ensures.read.inode)
    (c.in_ok-put_inode.ensures.ok
    ∙ ap (λ (n : ℕ). with_delta old (inode_delta c.geometry.result.now c.args.i.0 (dinode_bytes (Some (record d { links = n }))))) c.saturating_sub.ensures)
