use Rattle.volume_laws.proofs.SoundParts.{in_parts, names_same}
use Rattle.volume_laws.proofs.soundness.sound_in_parts.Goals as goal

pub returns-clause-parts : goal.returns-clause-parts
returns-clause-parts c = in_parts

pub returns-clause-names : goal.returns-clause-names
returns-clause-names c = names_same
