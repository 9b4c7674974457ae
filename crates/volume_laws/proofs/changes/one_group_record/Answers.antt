use Rattle.lufs_base.specs.Layout.{group_start}
use Rattle.volume_laws.proofs.LessAgreement.{agree_in_metadata_but}
use Rattle.volume_laws.proofs.RecordChanges.{only_group, claims_beside_group}
use Rattle.volume_laws.proofs.OneEntry.{one_group, tree_beside, shape_beside}
use Rattle.volume_laws.proofs.changes.one_group_record.Goals as goal

pub returns-clause-reading : goal.returns-clause-reading
returns-clause-reading c g blocks others n ok laid within agree = one_group g blocks others n within (only_group g blocks others ok laid n within agree)

pub returns-clause-tree : goal.returns-clause-tree
returns-clause-tree c g blocks others n ok laid within agree =
    let mostly = agree_in_metadata_but g blocks others (group_start g n) 0 416 agree in
    tree_beside g blocks others n within (only_group g blocks others ok laid n within mostly) (claims_beside_group g blocks others ok laid n within agree)

pub returns-clause-shape : goal.returns-clause-shape
returns-clause-shape c g blocks others n ok laid within agree = shape_beside g blocks others n within (only_group g blocks others ok laid n within agree)
