use Rattle.volume_laws.proofs.TreeLaws.{sound_stands, stands_once, opened_mounts, mounts_once}
use Rattle.volume_laws.proofs.soundness.one_tree.Goals as goal

pub returns-clause-some : goal.returns-clause-some
returns-clause-some c = sound_stands

pub returns-clause-one : goal.returns-clause-one
returns-clause-one c = stands_once

pub returns-clause-opened : goal.returns-clause-opened
returns-clause-opened c = opened_mounts

pub returns-clause-mounted : goal.returns-clause-mounted
returns-clause-mounted c = mounts_once
