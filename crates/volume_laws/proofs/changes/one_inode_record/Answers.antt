use Rattle.volume_laws.proofs.LessAgreement.{agree_in_metadata_but}
use Rattle.volume_laws.proofs.RecordChanges.{only_inode, claims_beside_inode}
use Rattle.volume_laws.proofs.OneEntry.{one_state, one_node, one_shape}
use Rattle.std.proofs.Common.{◌/◌, ◌%◌}
use Rattle.lufs_base.specs.Layout.{inode_address}
use Rattle.volume_laws.proofs.changes.one_inode_record.Goals as goal

pub returns-clause-reading : goal.returns-clause-reading
returns-clause-reading c g blocks others i ok laid within agree = one_state g blocks others i within (only_inode g blocks others ok laid i within agree)

pub returns-clause-tree : goal.returns-clause-tree
returns-clause-tree c g blocks others i ok laid within agree =
    let mostly = agree_in_metadata_but g blocks others (inode_address g i / 4096) (inode_address g i % 4096) 128 agree in
    one_node g blocks others i within (only_inode g blocks others ok laid i within mostly) (λ j away. claims_beside_inode g blocks others ok laid i within agree j)

pub returns-clause-shape : goal.returns-clause-shape
returns-clause-shape c g blocks others i ok laid within agree = one_shape g blocks others i within (only_inode g blocks others ok laid i within agree)
