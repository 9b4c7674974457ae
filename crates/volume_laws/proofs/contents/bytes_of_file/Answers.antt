use Rattle.volume_laws.proofs.ContentLaws.{file_reading, file_tree, file_shape}
use Rattle.volume_laws.proofs.contents.bytes_of_file.Goals as goal

pub returns-clause-reading : goal.returns-clause-reading
returns-clause-reading c g blocks others i k at n u ok laid used file there agree = file_reading g blocks others i k at n u ok laid used there file agree

pub returns-clause-tree : goal.returns-clause-tree
returns-clause-tree c g blocks others i k at n u file ok laid used there stands agree = file_tree g blocks others i k at n u ok laid used there file stands agree

pub returns-clause-shape : goal.returns-clause-shape
returns-clause-shape c g blocks others i k at n u ok laid used file there agree = file_shape g blocks others i k at n u ok laid used there file agree
