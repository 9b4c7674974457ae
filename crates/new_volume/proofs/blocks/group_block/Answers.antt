use Rattle.std.proofs.Common.{◌∙◌, ap, List, ℕ}
use Rattle.volume_model.specs.Format.{group_bytes}
use Rattle.volume_model.specs.MkfsImage.{block_with}
use Rattle.new_volume.proofs.blocks.group_block.Goals as goal

pub returns : goal.returns
returns c = c.block_with.ensures ∙ ap (λ (l : List ℕ). block_with 0 l) (c.write_group.ensures ∙ ap group_bytes c.new_group.ensures)
