use Rattle.journal_laws.proofs.MountOutcomes.{same_by, left_by_failure}
use Rattle.journal_laws.proofs.mount.failed_calls_of_mounts.Goals as goal

pub returns : goal.returns
returns c g found first r after stage next calls image m step which left = same_by g found first image (left_by_failure g found first r after stage next calls image m step which left)
