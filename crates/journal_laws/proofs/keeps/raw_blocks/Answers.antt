use Rattle.journal_laws.proofs.RawPlaces.{raw_place, file_byte}
use Rattle.journal_laws.proofs.keeps.raw_blocks.Goals as goal

pub returns-clause-places : goal.returns-clause-places
returns-clause-places c = raw_place

pub returns-clause-stay : goal.returns-clause-stay
returns-clause-stay c = λ g roles r j b image v i safe file inside. file_byte g roles r j b safe image v i file inside
