use Rattle.std.proofs.Common.{[]}
use Rattle.volume_model.specs.Format.{block}
use Rattle.plain_image.proofs.SameHomes.{stands_too, written_opens}
use Rattle.plain_image.proofs.laws.written_images.Goals as goal

pub returns-clause-tree : goal.returns-clause-tree
returns-clause-tree c g header image before now tree ok is stands = stands_too g ok (block image) (block now) tree [] is.blocks stands

pub returns-clause-opens : goal.returns-clause-opens
returns-clause-opens c g header image before now ok is named none sound = written_opens g ok header image before now is named none sound
