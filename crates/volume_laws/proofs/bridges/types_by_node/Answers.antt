use Rattle.volume_laws.proofs.NodeFacts.{file_by_node, directory_by_node}
use Rattle.volume_laws.proofs.NodeFields.{link_by_node, chunks_of_its_node}
use Rattle.volume_laws.proofs.bridges.types_by_node.Goals as goal

pub returns-clause-file : goal.returns-clause-file
returns-clause-file c = file_by_node

pub returns-clause-directory : goal.returns-clause-directory
returns-clause-directory c g blocks i u directory used stands = (directory_by_node g blocks i u directory used stands).0

pub returns-clause-link : goal.returns-clause-link
returns-clause-link c = link_by_node

pub returns-clause-chunks : goal.returns-clause-chunks
returns-clause-chunks c = chunks_of_its_node
