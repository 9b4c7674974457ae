use Rattle.new_volume.proofs.NewBlocks.{group_of_parts}
use Rattle.new_volume.proofs.blocks.new_group.Goals as goal

pub returns : goal.returns
returns c =
    group_of_parts c.args.g.now c.args.n c.used_inodes-inodes.result c.used_blocks-blocks.result c.first_bits.result c.first_bits-2.result c.used_inodes-inodes.ensures
    c.used_blocks-blocks.ensures c.first_bits.ensures c.first_bits-2.ensures
