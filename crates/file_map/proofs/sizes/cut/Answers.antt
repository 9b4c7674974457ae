use Rattle.std.proofs.Common.{◌≡◌, ◌<◌, ◌≤◌, ◌*◌, ◌^◌, ℕ, min, Option, Some, None, IfSome, OnOk, Result, Ok, Err, sym, ap, subst, ◌∙◌, arith}
use Rattle.lufs_base.specs.declared.geometry.Geometry.{Geometry}
use Rattle.volume_model.specs.declared.inode.Dinode.{Dinode}
use Rattle.volume_model.specs.Format.{IsDinode}
use Rattle.volume_model.specs.Sound.{size_in_blocks}
use Rattle.file_map.specs.Attached.{with_record}
use Rattle.file_map.specs.Cut.{sized}
use Rattle.file_map.proofs.CutTold.{cut_short, cut_long, cut_none}
use Rattle.file_map.proofs.sizes.cut.Goals as goal

on_ok : {T E : Type 0} {A B : Type 0} (result : Result T E) → OnOk result A → (A → B) → OnOk result B
on_ok (Ok x) a f = f a
on_ok (Err e) a f = tt

pub returns-in_default-clause-drawn : goal.returns-in_default-clause-drawn
returns-in_default-clause-drawn g c =
    let told = g.S.MetaRead.store c.args.store.now in
    let old = c.args.draft.now.change in
    cut_none told.content told.geometry old old c.args.i.0 c.args.size c.in_ok-d.field-0 c.in_default.is c.in_ok-d.ensures.value

pub returns-then-kept-past-clause-drawn : goal.returns-then-kept-past-clause-drawn
returns-then-kept-past-clause-drawn g c =
    let told = g.S.MetaRead.store c.args.store.now in
    let now = g.S.MetaRead.store c.used_inode.new.store in
    let old = c.args.draft.now.change in
    let new = c.shorten.new.draft.change in
    let d = c.in-Some.d in
    let less : size_in_blocks c.args.size < min (size_in_blocks d.size) 1036 = omega (arith, c.if-kept-past.true, c.blocks_for-kept.ensures, c.blocks_for-past.ensures, c.requires) in
    on_ok c.shorten.result c.shorten.ensures.drawn
    (cut_short told.content now.content told.geometry now.geometry old new c.args.i.0 c.args.size c.in_ok-d.field-0 d c.in-Some.is less c.in_ok-d.ensures.unchanged.content
    c.in_ok-d.ensures.unchanged.geometry c.in_ok-d.ensures.value)

pub returns-clause-drawn : goal.returns-clause-drawn
returns-clause-drawn g c =
    let told = g.S.MetaRead.store c.args.store.now in
    let old = c.args.draft.now.change in
    let new = c.put_inode.new.self.change in
    let d = c.in-Some.d in
    let dinode : IsDinode told.geometry.version d = subst (λ (o : Option Dinode). IfSome o (IsDinode told.geometry.version)) c.in-Some.is c.in_ok-d.ensures.inode in
    let geometry : c.geometry.result.now ≡ told.geometry = c.geometry.ensures.value ∙ c.in_ok-d.ensures.unchanged.geometry in
    let more : min (size_in_blocks d.size) 1036 ≤ size_in_blocks c.args.size = omega (arith, c.if-kept-past.false, c.blocks_for-kept.ensures, c.blocks_for-past.ensures) in
    let put : new ≡ with_record told.geometry old c.args.i.0 (sized d c.args.size 0) =
    c.in_ok-put_inode.ensures.ok ∙ ap (λ (e : Dinode). with_record c.geometry.result.now old c.args.i.0 e) c.sized.ensures
    ∙ ap (λ (h : Geometry). with_record h old c.args.i.0 (sized d c.args.size 0)) geometry in
    cut_long told.content told.geometry old new c.args.i.0 c.args.size c.in_ok-d.field-0 d c.in-Some.is dinode c.requires more put c.in_ok-d.ensures.value
