use Rattle.std.proofs.Common.{ℕ, ◌-◌, Bool, Option, None, List, ap, ◌∙◌}
use Rattle.std.specs.Prelude.{if◌then◌else◌, find}
use Rattle.std.specs.List.{range_with_len}
use Rattle.lufs_base.specs.declared.geometry.Geometry.{Geometry}
use Rattle.volume_model.specs.Format.{inodes_of}
use Rattle.cyl_groups.specs.declared.group.Group.{Group}
use Rattle.block_alloc.specs.Records.{is_clear_inode}
use Rattle.block_alloc.proofs.ChosenHand.{refused_is, got_is, is_chosen, nothing_got}
use Rattle.block_alloc.proofs.choice.choose_among.Goals as goal

pub returns-in-Some-clause-hand : goal.returns-in-Some-clause-hand
returns-in-Some-clause-hand g c = nothing_got _ c.in-Some.refusal c.in-Some.ensures.nothing_got

pub returns-in-Some-clause-answer : goal.returns-in-Some-clause-answer
returns-in-Some-clause-answer g c blocks tree so stands =
    refused_is (g.S.MetaRead.store c.args.store.now).geometry blocks tree c.args.held.now (g.S.MetaRead.changing c.args.store.now).is_released c.counts_of-counts.result c.args.inode
    c.args.n c.in-Some.refusal (c.counts_of-counts.ensures blocks tree so stands) c.in-Some.ensures.answer

-- the inode that is wanted, by the geometry that the store tells
abbrev found_by : Bool → List (Option Group) → Geometry → Option ℕ
found_by inode records h = if inode then find (is_clear_inode h records) (range_with_len 2 (inodes_of h - 2)) else None

pub returns-clause-answer : goal.returns-clause-answer
returns-clause-answer g c blocks tree so stands =
    let told = g.S.MetaRead.store c.args.store.now in
    got_is told.geometry blocks tree c.args.held.now c.args.records.now (g.S.MetaRead.changing c.args.store.now).is_released c.counts_of-counts.result c.args.inode c.args.n
    c.wanted_inode-inode.result c.in_ok-blocks.blocks c.geometry.ensures.in_range so stands (c.counts_of-counts.ensures blocks tree so stands) c.in_default.ensures.answer
    (c.wanted_inode-inode.ensures ∙ ap (found_by c.args.inode c.args.records.now) c.geometry.ensures.value) c.in_ok-blocks.ensures

pub returns-clause-hand : goal.returns-clause-hand
returns-clause-hand g c =
    let told = g.S.MetaRead.store c.args.store.now in
    is_chosen told.geometry c.args.records.now (g.S.MetaRead.changing c.args.store.now).is_released c.args.inode c.args.n c.wanted_inode-inode.result c.in_ok-blocks.blocks
    (c.wanted_inode-inode.ensures ∙ ap (found_by c.args.inode c.args.records.now) c.geometry.ensures.value) c.in_ok-blocks.ensures
