use Rattle.change_laws.proofs.SameHands.{apart_same, stored_same, sound_same}
use Rattle.change_laws.proofs.hands.hands_alike.Goals as goal

pub returns-clause-apart : goal.returns-clause-apart
returns-clause-apart c g r hands others same = apart_same hands others same g r

pub returns-clause-stored : goal.returns-clause-stored
returns-clause-stored c g r hands others same = stored_same hands others same g r

pub returns-clause-sound : goal.returns-clause-sound
returns-clause-sound c g blocks hands others same = sound_same hands others same g blocks

pub returns-clause-stands : goal.returns-clause-stands
returns-clause-stands c g blocks tree hands others same stands =
    record { sound = sound_same hands others same g blocks stands.sound; stands = stands.stands }
