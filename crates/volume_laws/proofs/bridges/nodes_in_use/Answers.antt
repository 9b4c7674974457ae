use Rattle.volume_laws.proofs.NodeFacts.{node_in_tree}
use Rattle.volume_laws.proofs.NodeFields.{used_where_node, unused_where_none}
use Rattle.volume_laws.proofs.bridges.nodes_in_use.Goals as goal

pub returns-clause-node : goal.returns-clause-node
returns-clause-node c = used_where_node

pub returns-clause-none : goal.returns-clause-none
returns-clause-none c = unused_where_none

pub returns-clause-used : goal.returns-clause-used
returns-clause-used c = node_in_tree
