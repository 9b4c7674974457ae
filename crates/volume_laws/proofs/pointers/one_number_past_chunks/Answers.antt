use Rattle.std.proofs.Common.{◌+◌, take, drop, slice_index, Some, ap, sym, ◌∙◌}
use Rattle.volume_model.specs.Format.{pointers_of}
use Rattle.volume_model.specs.Sound.{UsedInode, Node, InUse, reading_of, with_node, tree_of, shape_of, shape_of_node, node_of}
use Rattle.volume_laws.specs.Changes.{with_state, with_numbers}
use Rattle.volume_laws.proofs.NumberChange.{as_one_number, one_more}
use Rattle.volume_laws.proofs.NodeFacts.{node_of_directory, node_in_tree, shape_in_tree, with_its_node}
use Rattle.volume_laws.proofs.PointerLaws.{numbers_reading, numbers_tree, numbers_shape}
use Rattle.volume_laws.proofs.pointers.one_number_past_chunks.Goals as goal

pub returns-clause-reading : goal.returns-clause-reading
returns-clause-reading c g blocks others i j u ok laid used directory past below there agree =
    numbers_reading g blocks others i j 1 u ok laid used past (one_more j below) there agree
    ∙ ap (λ (v : UsedInode). with_state (reading_of g blocks) i (InUse v)) (as_one_number g blocks i j u (others (slice_index u.inode.indirect 0)) used below)

pub returns-clause-tree : goal.returns-clause-tree
returns-clause-tree c g blocks others i j u ok laid used directory past below there agree =
    let v = with_numbers u (12 + j) (take 1 (drop j (pointers_of (others (slice_index u.inode.indirect 0))))) in
    let same = node_of_directory others v directory ∙ sym (node_of_directory blocks u directory) in
    numbers_tree g blocks others i j 1 u ok laid used past (one_more j below) there agree ∙ ap (λ (node : Node). with_node (tree_of g blocks) i (Some node)) same
    ∙ with_its_node (tree_of g blocks) i (Some (node_of blocks u)) (node_in_tree g blocks i u used)

pub returns-clause-shape : goal.returns-clause-shape
returns-clause-shape c g blocks others i j u ok laid used directory past below there agree =
    let v = with_numbers u (12 + j) (take 1 (drop j (pointers_of (others (slice_index u.inode.indirect 0))))) in
    let same = node_of_directory others v directory ∙ sym (node_of_directory blocks u directory) in
    numbers_shape g blocks others i j 1 u ok laid used past (one_more j below) there agree ∙ ap (λ (node : Node). with_node (shape_of (tree_of g blocks)) i (Some (shape_of_node node))) same
    ∙ with_its_node (shape_of (tree_of g blocks)) i (Some (shape_of_node (node_of blocks u))) (shape_in_tree g blocks i u used)
