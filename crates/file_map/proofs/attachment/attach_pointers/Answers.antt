use Rattle.std.proofs.Common.{◌≡◌, ◌<◌, ◌^◌, Option, IfSome, ap, subst, ◌∙◌, arith}
use Rattle.lufs_base.specs.declared.geometry.Geometry.{Geometry}
use Rattle.volume_model.specs.declared.inode.Dinode.{Dinode}
use Rattle.volume_model.specs.Format.{IsDinode}
use Rattle.file_map.specs.Attached.{with_pointers_put}
use Rattle.file_map.proofs.AttachedBlocks.{pointers_told, no_pointers_told}
use Rattle.file_map.proofs.AttachedPointers.{pointers_elsewhere}
use Rattle.file_map.proofs.attachment.attach_pointers.Goals as goal

pub returns-in_default-clause-drawn : goal.returns-in_default-clause-drawn
returns-in_default-clause-drawn g c =
    let told = g.S.MetaRead.store c.args.store.now in
    let old = c.args.draft.now.change in
    no_pointers_told told.content told.geometry old old c.args.i.0 c.args.p.0 c.in_ok-d.field-0 c.in_default.is c.in_ok-d.ensures.value

pub returns-clause-drawn : goal.returns-clause-drawn
returns-clause-drawn g c =
    let told = g.S.MetaRead.store c.args.store.now in
    let old = c.args.draft.now.change in
    let new = c.put_pointers.new.draft.change in
    let d = c.in-Some.d in
    let dinode : IsDinode told.geometry.version d = subst (λ (o : Option Dinode). IfSome o (IsDinode told.geometry.version)) c.in-Some.is c.in_ok-d.ensures.inode in
    let geometry : c.geometry.result.now ≡ told.geometry = c.geometry.ensures.value ∙ c.in_ok-d.ensures.unchanged.geometry in
    let small : c.args.p.0 < 2 ^ 32 = omega arith in
    pointers_told told.content told.geometry old new c.args.i.0 c.args.p.0 c.in_ok-d.field-0 d c.in-Some.is dinode small
    (c.in_ok-put_pointers.ensures.ok ∙ ap (λ (h : Geometry). with_pointers_put h old c.args.i.0 d c.args.p.0) geometry) c.in_ok-d.ensures.value

pub returns-clause-others : goal.returns-clause-others
returns-clause-others g c =
    let told = g.S.MetaRead.store c.args.store.now in
    let old = c.args.draft.now.change in
    let d = c.in-Some.d in
    let geometry : c.geometry.result.now ≡ told.geometry = c.geometry.ensures.value ∙ c.in_ok-d.ensures.unchanged.geometry in
    pointers_elsewhere told.geometry old c.put_pointers.new.draft.change c.args.i.0 c.args.p.0 d
    (c.in_ok-put_pointers.ensures.ok ∙ ap (λ (h : Geometry). with_pointers_put h old c.args.i.0 d c.args.p.0) geometry)
