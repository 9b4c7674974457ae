use Rattle.volume_laws.proofs.ContentLaws.{link_reading, link_tree, link_shape}
use Rattle.volume_laws.proofs.contents.bytes_of_link.Goals as goal

pub returns-clause-reading : goal.returns-clause-reading
returns-clause-reading c g blocks others i at n u ok laid used link there agree = link_reading g blocks others i 0 at n u ok laid used there link agree

pub returns-clause-tree : goal.returns-clause-tree
returns-clause-tree c g blocks others i at n u ok laid used link there agree = link_tree g blocks others i 0 at n u ok laid used there link agree

pub returns-clause-shape : goal.returns-clause-shape
returns-clause-shape c g blocks others i at n u ok laid used link there agree = link_shape g blocks others i 0 at n u ok laid used there link agree
