use Rattle.std.proofs.Common.{refl}
use Rattle.volume_model.specs.Crash.{present_of}
use Rattle.journal_laws.proofs.MountImages.{mount_begins, mount_keeps}
use Rattle.journal_laws.proofs.mount.mount_steps.Goals as goal

pub returns-clause-begins : goal.returns-clause-begins
returns-clause-begins c g found r left ok settled is all = mount_begins g found (present_of r) is r left refl ok settled all

pub returns-clause-keeps : goal.returns-clause-keeps
returns-clause-keeps c = mount_keeps
