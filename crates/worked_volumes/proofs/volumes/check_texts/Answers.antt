use Rattle.std.proofs.Common.{refl}
use Rattle.std.specs.Fmt.{digits}
use Rattle.volume_model.specs.Texts.{verdict_text}
use Rattle.worked_volumes.proofs.volumes.check_texts.Goals as goal

pub returns-clause-clean : goal.returns-clause-clean
unfolding digits verdict_text
returns-clause-clean c = refl

pub returns-clause-unsound : goal.returns-clause-unsound
unfolding digits verdict_text
returns-clause-unsound c = refl

pub returns-clause-words : goal.returns-clause-words
returns-clause-words c = refl

pub returns-clause-more_words : goal.returns-clause-more_words
returns-clause-more_words c = refl
