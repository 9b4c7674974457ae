use Rattle.std.proofs.Common.{◌≡◌, ◌<◌, ◌^◌, Option, IfSome, subst, ◌∙◌, arith}
use Rattle.lufs_base.specs.declared.geometry.Geometry.{Geometry}
use Rattle.volume_model.specs.declared.inode.Dinode.{Dinode}
use Rattle.volume_model.specs.Format.{IsDinode}
use Rattle.file_map.specs.Attached.{PutsBlock}
use Rattle.file_map.proofs.AttachedBlocks.{block_told, no_block_told}
use Rattle.file_map.proofs.attachment.attach_block.Goals as goal

pub returns-clause-drawn : goal.returns-clause-drawn
returns-clause-drawn g c =
    let told = g.S.MetaRead.store c.args.store.now in
    let old = c.args.draft.now.change in
    let new = c.put_block.new.draft.change in
    let d = c.in-Some.d in
    let dinode : IsDinode told.geometry.version d = subst (λ (o : Option Dinode). IfSome o (IsDinode told.geometry.version)) c.in-Some.is c.in_ok-d.ensures.inode in
    let geometry : c.geometry.result.now ≡ told.geometry = c.geometry.ensures.value ∙ c.in_ok-d.ensures.unchanged.geometry in
    let small : c.args.b.0 < 2 ^ 32 = omega arith in
    block_told told.content told.geometry old new c.args.i.0 c.args.index c.args.b.0 c.in_ok-d.field-0 d c.in-Some.is dinode small
    (subst (λ (h : Geometry). PutsBlock h old new c.args.i.0 d c.args.index c.args.b.0) geometry c.in_ok-put_block.ensures.ok) c.in_ok-d.ensures.value

pub returns-in_default-clause-drawn : goal.returns-in_default-clause-drawn
returns-in_default-clause-drawn g c =
    let told = g.S.MetaRead.store c.args.store.now in
    let old = c.args.draft.now.change in
    no_block_told told.content told.geometry old old c.args.i.0 c.args.index c.args.b.0 c.in_ok-d.field-0 c.in_default.is c.in_ok-d.ensures.value
