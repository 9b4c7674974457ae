use Rattle.journal_laws.proofs.MountOutcomes.{again_by, left_by_mount, nested_bytes}
use Rattle.journal_laws.proofs.mount.mounts_of_outcomes.Goals as goal

pub returns-clause-again : goal.returns-clause-again
returns-clause-again c g found first r stage image m left = again_by g found first image (left_by_mount g found first r stage image m left)

pub returns-clause-recovers : goal.returns-clause-recovers
returns-clause-recovers c = nested_bytes
