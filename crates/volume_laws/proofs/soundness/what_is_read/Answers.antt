use Rattle.volume_laws.proofs.SameReading.{reading_same}
use Rattle.volume_laws.proofs.SameTree.{agree_in_metadata, same_tree_of, same_shape_of, same_tree, same_shape}
use Rattle.volume_laws.proofs.soundness.what_is_read.Goals as goal

pub returns-clause-same_reading : goal.returns-clause-same_reading
returns-clause-same_reading c = reading_same

pub returns-clause-metadata : goal.returns-clause-metadata
returns-clause-metadata c = agree_in_metadata

pub returns-clause-same_nodes : goal.returns-clause-same_nodes
returns-clause-same_nodes c = same_tree_of

pub returns-clause-same_shape_of_nodes : goal.returns-clause-same_shape_of_nodes
returns-clause-same_shape_of_nodes c = same_shape_of

pub returns-clause-same_tree : goal.returns-clause-same_tree
returns-clause-same_tree c = same_tree

pub returns-clause-same_shape : goal.returns-clause-same_shape
returns-clause-same_shape c = same_shape
