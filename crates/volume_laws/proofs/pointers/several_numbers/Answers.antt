use Rattle.volume_laws.proofs.PointerLaws.{numbers_reading, numbers_tree, numbers_shape}
use Rattle.volume_laws.proofs.pointers.several_numbers.Goals as goal

pub returns-clause-reading : goal.returns-clause-reading
returns-clause-reading c g blocks others i j n u ok laid used past fits there agree = numbers_reading g blocks others i j n u ok laid used past fits there agree

pub returns-clause-tree : goal.returns-clause-tree
returns-clause-tree c g blocks others i j n u ok laid used past fits there agree = numbers_tree g blocks others i j n u ok laid used past fits there agree

pub returns-clause-shape : goal.returns-clause-shape
returns-clause-shape c g blocks others i j n u ok laid used past fits there agree = numbers_shape g blocks others i j n u ok laid used past fits there agree
