-- What the record of an inode says, by the node that it is in the tree.
use Rattle.std.specs.Prelude.{ℕ, ◌+◌, ◌*◌, length}
use Rattle.volume_model.specs.Sound.{Attributes, Node, File, Directory, Link}

abbrev pub attributes_of_node : Node → Attributes
attributes_of_node (File file) = file.attributes
attributes_of_node (Directory directory) = directory.attributes
attributes_of_node (Link link) = link.attributes

-- the bits of its type and of its rights
abbrev pub mode_of_node : Node → ℕ
mode_of_node (File file) = 0x8000 + file.attributes.rights
mode_of_node (Directory directory) = 0x4000 + directory.attributes.rights
mode_of_node (Link link) = 0xa000 + link.attributes.rights

-- in bytes: 512 for each chunk of a directory, and the text of a link
abbrev pub size_of_node : Node → ℕ
size_of_node (File file) = file.size
size_of_node (Directory directory) = 512 * length directory.chunks
size_of_node (Link link) = length link.text
