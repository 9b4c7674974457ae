use Rattle.std.proofs.Common.{refl, ap, length, ◌∙◌, sym}
use Rattle.std.proofs.lemmas.List.{length-take-le}
use Rattle.new_volume.proofs.Groups.{length-group_block}
use Rattle.new_volume.proofs.NewBlocks.{group_block_put, length-room}
use Rattle.new_volume.proofs.make.put_group_block.Goals as goal

pub slice_bounds-copy_from_slice-end : goal.slice_bounds-copy_from_slice-end
slice_bounds-copy_from_slice-end c = length-room c.args.g.now c.args.metadata.now c.requires.room

pub slice_bounds-copy_from_slice-end-2 : goal.slice_bounds-copy_from_slice-end-2
slice_bounds-copy_from_slice-end-2 c = sym (length-take-le 4096 c.args.metadata.now (length-room c.args.g.now c.args.metadata.now c.requires.room))

pub copy_from_slice-requires : goal.copy_from_slice-requires
copy_from_slice-requires c =
    length-take-le 4096 c.args.metadata.now (length-room c.args.g.now c.args.metadata.now c.requires.room)
    ∙ sym (ap length c.group_block.ensures ∙ length-group_block c.args.g.now c.args.n)

pub returns : goal.returns
returns c =
    group_block_put c.args.g.now c.args.n c.args.metadata.now c.copy_from_slice.new.self _ c.requires.room (c.copy_from_slice.ensures.after ∙ c.group_block.ensures)
    (ap length (c.copy_from_slice.ensures.after ∙ c.group_block.ensures) ∙ length-group_block c.args.g.now c.args.n) refl
