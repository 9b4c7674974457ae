use Rattle.journal_laws.proofs.MountOutcomes.{same_by, left_by_mount}
use Rattle.journal_laws.proofs.MountedVolumes.{tree_stays, opens_still}
use Rattle.journal_laws.proofs.mount.mount_outcomes.Goals as goal

pub returns-clause-recovers : goal.returns-clause-recovers
returns-clause-recovers c g found first r stage image m left = same_by g found first image (left_by_mount g found first r stage image m left)

pub returns-clause-tree : goal.returns-clause-tree
returns-clause-tree c = tree_stays

pub returns-clause-opens : goal.returns-clause-opens
returns-clause-opens c = opens_still
