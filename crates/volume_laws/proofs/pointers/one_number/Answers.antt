use Rattle.std.proofs.Common.{slice_index, Some, ap, ◌∙◌}
use Rattle.volume_model.specs.Sound.{UsedInode, InUse, reading_of, with_node, tree_of, shape_of, shape_of_node, node_of}
use Rattle.volume_laws.specs.Changes.{with_state}
use Rattle.volume_laws.proofs.NumberChange.{as_one_number, without_chunks, one_more}
use Rattle.volume_laws.proofs.PointerLaws.{numbers_reading, numbers_tree, numbers_shape}
use Rattle.volume_laws.proofs.pointers.one_number.Goals as goal

pub returns-clause-reading : goal.returns-clause-reading
returns-clause-reading c g blocks others i j u ok laid used plain below there agree =
    numbers_reading g blocks others i j 1 u ok laid used (without_chunks g blocks i j u used plain) (one_more j below) there agree
    ∙ ap (λ (v : UsedInode). with_state (reading_of g blocks) i (InUse v)) (as_one_number g blocks i j u (others (slice_index u.inode.indirect 0)) used below)

pub returns-clause-tree : goal.returns-clause-tree
returns-clause-tree c g blocks others i j u ok laid used plain below there agree =
    numbers_tree g blocks others i j 1 u ok laid used (without_chunks g blocks i j u used plain) (one_more j below) there agree
    ∙ ap (λ (v : UsedInode). with_node (tree_of g blocks) i (Some (node_of others v))) (as_one_number g blocks i j u (others (slice_index u.inode.indirect 0)) used below)

pub returns-clause-shape : goal.returns-clause-shape
returns-clause-shape c g blocks others i j u ok laid used plain below there agree =
    numbers_shape g blocks others i j 1 u ok laid used (without_chunks g blocks i j u used plain) (one_more j below) there agree
    ∙ ap (λ (v : UsedInode). with_node (shape_of (tree_of g blocks)) i (Some (shape_of_node (node_of others v)))) (as_one_number g blocks i j u (others (slice_index u.inode.indirect 0)) used below)
