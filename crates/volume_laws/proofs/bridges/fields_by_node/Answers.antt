use Rattle.volume_laws.proofs.NodeFields.{mode_of_its_node, attributes_of_its_node, size_of_its_node, blocks_of_its_node, links_of_inode}
use Rattle.volume_laws.proofs.bridges.fields_by_node.Goals as goal

pub returns-clause-mode : goal.returns-clause-mode
returns-clause-mode c = mode_of_its_node

pub returns-clause-attributes : goal.returns-clause-attributes
returns-clause-attributes c = attributes_of_its_node

pub returns-clause-size : goal.returns-clause-size
returns-clause-size c = size_of_its_node

pub returns-clause-blocks : goal.returns-clause-blocks
returns-clause-blocks c = blocks_of_its_node

pub returns-clause-links : goal.returns-clause-links
returns-clause-links c = links_of_inode
