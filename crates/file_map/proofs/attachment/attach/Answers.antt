use Rattle.std.proofs.Common.{◌≡◌, ◌≢◌, ◌∷◌, [], ℕ, List, Option, IfSome, IfNone, OnOk, Result, Ok, Err, length, sym, ap, subst, ◌∙◌}
use Rattle.std.proofs.lemmas.List.{length-map}
use Rattle.lufs_base.specs.declared.numbers.BlockNo.{BlockNo}
use Rattle.meta_store.specs.Changes.{numbers_in}
use Rattle.file_map.proofs.AttachedTold.{AttachedTold, alone_told, both_told}
use Rattle.file_map.proofs.attachment.attach.Goals as goal

on_ok : {T E : Type 0} {A B : Type 0} (result : Result T E) → OnOk result A → (A → B) → OnOk result B
on_ok (Ok x) a f = f a
on_ok (Err e) a f = tt

pub returns-in_default-clause-drawn : goal.returns-in_default-clause-drawn
returns-in_default-clause-drawn g c =
    let told = g.S.MetaRead.store c.args.store.now in
    let old = c.args.draft.now.change in
    let new = c.attach_block.new.draft.change in
    let pointers = numbers_in c.args.pointers.now in
    let other : length pointers ≢ 1 = λ one.
    subst (λ (o : Option BlockNo). IfNone o (length c.args.pointers.now ≢ 1)) c.in_default.is c.one_of.ensures.none (sym (length-map c.args.pointers.now (λ (b : BlockNo). b.0)) ∙ one) in
    on_ok c.attach_block.result c.attach_block.ensures.drawn (alone_told told.content told.geometry old new c.args.i.0 c.args.index c.args.b.0 pointers other)

pub returns-clause-drawn : goal.returns-clause-drawn
returns-clause-drawn g c =
    let told = g.S.MetaRead.store c.args.store.now in
    let now = g.S.MetaRead.store c.attach_pointers.new.store in
    let old = c.args.draft.now.change in
    let middle = c.attach_pointers.new.draft.change in
    let new = c.attach_block-2.new.draft.change in
    let p = c.in-Some.p in
    let one : c.args.pointers.now ≡ p ∷ [] = subst (λ (o : Option BlockNo). IfSome o (λ q. c.args.pointers.now ≡ q ∷ [])) c.in-Some.is c.one_of.ensures.some in
    subst (λ (l : List ℕ). OnOk c.attach_block-2.result (AttachedTold told.content told.geometry old new c.args.i.0 c.args.index c.args.b.0 l)) (sym (ap numbers_in one))
    (on_ok c.attach_block-2.result c.attach_block-2.ensures.drawn
    (both_told told.content now.content told.geometry now.geometry old middle new c.args.i.0 c.args.index c.args.b.0 p.0
    c.in_ok-attach_pointers.ensures.unchanged.content c.in_ok-attach_pointers.ensures.unchanged.geometry c.in_ok-attach_pointers.ensures.drawn c.in_ok-attach_pointers.ensures.others))
