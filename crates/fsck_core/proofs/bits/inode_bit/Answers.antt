use Rattle.std.proofs.Common.{◌≡◌, ◌/◌, ◌%◌, ◌<◌, Some, slice_get, sym, ap, ◌∙◌}
use Rattle.std.proofs.lemmas.Option.{slice_get_read}
use Rattle.volume_model.specs.Format.{bit_at}
use Rattle.cyl_groups.specs.declared.group.Group.{Group}
use Rattle.fsck_core.proofs.BitSteps.{group_of_inode, inode_bit_in}
use Rattle.fsck_core.proofs.bits.inode_bit.Goals as goal

pub returns : goal.returns
returns c = λ blocks so.
    let g = c.args.g.now in
    let groups = c.args.groups.now in
    let i = c.args.i in
    let x = c.index-groups-i.result in
    let within : i / g.ipg < g.groups = group_of_inode g i c.requires.geometry c.requires.inside in
    let here : slice_get groups (i / g.ipg) ≡ Some x = slice_get_read groups g.groups (i / g.ipg) x (sym c.requires.groups) within c.index-groups-i.is in
    c.is_set.ensures ∙ ap (λ (y : Group). bit_at y.inode_bits (i % g.ipg)) (sym c.index-groups-i.is) ∙ inode_bit_in g blocks groups i x so c.requires.groups here
