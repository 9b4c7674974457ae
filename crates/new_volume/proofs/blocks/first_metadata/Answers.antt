use Rattle.std.proofs.Common.{ap, ◌∙◌}
use Rattle.volume_model.specs.Format.{chunk_bytes}
use Rattle.volume_model.specs.MkfsImage.{block_with}
use Rattle.new_volume.proofs.NewBlocks.{first_metadata_of_parts}
use Rattle.new_volume.proofs.blocks.first_metadata.Goals as goal

pub returns : goal.returns
returns c =
    first_metadata_of_parts c.args.g.now c.args.moment _ c.group_block.result c.root_inode_block.result c.chunk_block.result _ _ _ _ c.in_ok-bytes.ensures.items
    c.in_ok-extend_from_slice.ensures.items c.group_block.ensures c.in_ok-extend_from_slice-2.ensures.items c.root_inode_block.ensures c.in_ok-push_zeros.ensures
    c.in_ok-extend_from_slice-3.ensures.items (c.chunk_block.ensures ∙ ap (λ l. block_with 0 (chunk_bytes l)) c.in_ok-chunk.ensures)
