use Rattle.std.proofs.Common.{◌≡◌, ◌<◌, ◌≤◌, ◌+◌, ◌^◌, ℕ, List, length, Option, Some, None, IfSome, OnOk, Result, Ok, Err, sym, ap, subst, ◌∙◌, arith}
use Rattle.std.specs.Option.{option_map}
use Rattle.lufs_base.specs.Layout.{blocks_of}
use Rattle.lufs_base.specs.declared.geometry.Geometry.{Geometry}
use Rattle.meta_store.specs.declared.change.Freed.{Freed}
use Rattle.meta_store.specs.Changes.{changed}
use Rattle.file_map.specs.Freed.{metadata_among, GivesBack}
use Rattle.file_map.specs.Cut.{lost, PutsCut}
use Rattle.file_map.proofs.CutLists.{few_metadata}
use Rattle.file_map.proofs.CutTold.{NumbersTold, short_told, given_ok}
use Rattle.file_map.proofs.Failures.{fails_then}
use Rattle.file_map.proofs.sizes.shorten.Goals as goal

on_ok : {T E : Type 0} {A B : Type 0} (result : Result T E) → OnOk result A → (A → B) → OnOk result B
on_ok (Ok x) a f = f a
on_ok (Err e) a f = tt

pub returns-clause-drawn : goal.returns-clause-drawn
returns-clause-drawn g c =
    let told = g.S.MetaRead.store c.args.store.now in
    let now = g.S.MetaRead.store c.read_numbers.new.store in
    let old = c.args.draft.now.change in
    let middle = c.put_cut.new.draft.change in
    let new = c.free_all.new.draft.change in
    let d = c.args.d.now in
    let list = c.in_ok-lost.lost.items in
    let numbers = c.in_ok-numbers.numbers.items in
    let list_is = c.in_ok-lost.ensures.list ∙ ap (λ (xs : List ℕ). lost d xs c.args.kept c.args.past) c.deref.ensures.value in
    let some : 0 < blocks_of told.geometry = omega arith in
    let geometry : c.geometry.result.now ≡ told.geometry = c.geometry.ensures.value in
    let same_count : c.from.result ≡ c.args.past = omega (arith, c.from.ensures) in
    let read = subst (λ (n : ℕ). NumbersTold told.content told.geometry old d n numbers) same_count c.in_ok-numbers.ensures.numbers in
    let len_is : c.len.result ≡ length list = omega (arith, c.len.ensures) in
    let puts = subst (λ (n : ℕ). PutsCut told.geometry old middle c.args.i.0 d c.args.size n c.args.kept c.args.past) len_is
    (subst (λ (h : Geometry). PutsCut h old middle c.args.i.0 d c.args.size c.len.result c.args.kept c.args.past) geometry c.in_ok-put_cut.ensures.ok) in
    let back = subst (λ (l : List Freed). GivesBack now middle new None l c.free_all.result) c.deref-2.ensures.value c.free_all.ensures.back in
    on_ok c.free_all.result (given_ok now.content now.geometry middle new list c.free_all.result back)
    (short_told told.content now.content told.geometry now.geometry old middle new c.args.i.0 c.args.size c.args.kept c.args.past d numbers list c.requires.dinode (omega arith) some
    c.requires.kept c.requires.past c.requires.order c.in_ok-numbers.ensures.unchanged.content c.in_ok-numbers.ensures.unchanged.geometry list_is
    read puts)

pub returns-clause-growth : goal.returns-clause-growth
returns-clause-growth g c =
    let few : metadata_among c.deref-2.result.now ≤ 1 = subst (λ (l : List Freed). metadata_among l ≤ 1) (sym (c.deref-2.ensures.value ∙ c.in_ok-lost.ensures.list))
    (few_metadata c.args.d.now c.deref.result.now c.args.kept c.args.past) in
    let groups = ap (λ (h : Geometry). h.groups) c.in_ok-numbers.ensures.unchanged.geometry in
    omega (arith, few, groups, c.free_all.ensures.growth, c.in_ok-put_cut.ensures.growth)

pub returns-clause-failure : goal.returns-clause-failure
returns-clause-failure g c = fails_then (λ other. absurd (cc)) c.in_ok-numbers.ensures.failure c.free_all.ensures.failure
