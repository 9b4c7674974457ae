use Rattle.std.proofs.Common.{◌≡◌, ◌-◌, ◌/◌, ◌%◌, ◌<◌, ℕ, false, Option, Some, slice_get, slice_index_or, sym, ap, ◌∙◌}
use Rattle.std.specs.Option.{option_map_or}
use Rattle.std.proofs.lemmas.Option.{slice_get_read}
use Rattle.lufs_base.specs.Layout.{group_start}
use Rattle.volume_model.specs.Format.{bit_at}
use Rattle.cyl_groups.specs.declared.group.Group.{Group}
use Rattle.fsck_core.proofs.BitSteps.{group_of_block}
use Rattle.fsck_core.proofs.bits.block_bit.Goals as goal

pub returns : goal.returns
returns c =
    let g = c.args.g.now in
    let groups = c.args.groups.now in
    let b = c.args.b in
    let x = c.index-groups-at.result in
    let n = (b - group_start g 0) / g.bpg in
    let start : b - c.group_block.result.0 ≡ b - group_start g 0 = ap (λ (k : ℕ). b - k) c.group_block.ensures in
    let within : n < g.groups = group_of_block g b c.requires.geometry c.requires.low c.requires.inside in
    let is : x ≡ slice_index_or groups n x = c.index-groups-at.is ∙ ap (λ (k : ℕ). slice_index_or groups (k / g.bpg) x) start in
    let here : slice_get groups n ≡ Some x = slice_get_read groups g.groups n x (sym c.requires.groups) within is in
    c.is_set.ensures ∙ ap (λ (y : Group). bit_at y.block_bits ((b - c.group_block.result.0) % g.bpg)) (sym c.index-groups-at.is)
    ∙ ap (λ (k : ℕ). bit_at x.block_bits (k % g.bpg)) start
    ∙ sym (ap (λ (o : Option Group). option_map_or (λ y. bit_at y.block_bits ((b - group_start g 0) % g.bpg)) o false) here)
