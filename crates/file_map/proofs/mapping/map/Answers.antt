use Rattle.std.proofs.Common.{◌≡◌, ◌<◌, ℕ, ◌+◌, List, slice_index, sym, ap, ◌∙◌, arith}
use Rattle.std.specs.Option.{option_map}
use Rattle.lufs_base.specs.Layout.{blocks_of}
use Rattle.lufs_base.specs.declared.geometry.Geometry.{Geometry}
use Rattle.lufs_base.specs.declared.BlockNo.{BlockNo}
use Rattle.meta_store.specs.Changes.{changed}
use Rattle.meta_draft.specs.Drafted.{drafted}
use Rattle.file_map.specs.Mapped.{numbered_within}
use Rattle.file_map.proofs.FoundInodes.{some_mapped}
use Rattle.file_map.proofs.mapping.map.Goals as goal

pub returns-clause-value : goal.returns-clause-value
returns-clause-value g c =
    let change = c.args.draft.now.change in
    let told = drafted change (g.S.MetaRead.store c.args.store.now) in
    let now = drafted change (g.S.MetaRead.store c.used_inode.new.store) in
    let index = c.args.index in
    let answer = option_map (λ (b : BlockNo). b.0) c.block_numbered.result in
    let some : 0 < blocks_of told.geometry = omega arith in
    let count = c.from.result + 1 in
    let below : index < count = omega (arith, c.from.ensures) in
    let geometry : c.geometry.result.now ≡ told.geometry = c.geometry.ensures.value ∙ c.in_ok-numbers.ensures.unchanged.geometry ∙ c.in_ok-d.ensures.unchanged.geometry in
    let given : answer ≡ numbered_within (blocks_of told.geometry) (slice_index c.in_ok-numbers.numbers.items index) =
    c.block_numbered.ensures.value
    ∙ ap (λ (h : Geometry). numbered_within (blocks_of h) c.number_at-number.result) geometry
    ∙ ap (numbered_within (blocks_of told.geometry)) (c.number_at-number.ensures ∙ ap (λ (xs : List ℕ). slice_index xs index) c.deref.ensures.value) in
    some_mapped told.content now.content told.geometry now.geometry c.args.i.0 index count c.in_ok-d.field-0 c.in-Some.d c.in_ok-numbers.numbers.items answer
    some c.in-Some.is c.in_ok-d.ensures.unchanged.geometry (ap (option_map (changed change)) c.in_ok-d.ensures.unchanged.content) below
    c.in_ok-d.ensures.value c.in_ok-numbers.ensures.numbers given
