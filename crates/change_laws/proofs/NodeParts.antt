-- A node by what it depends on, and the node with other attributes.
use Rattle.std.proofs.Common.{◌≡◌, ℕ, Bool, true, false, cond, [], map, take, slice_index, refl, sym, ◌∙◌}
use Rattle.std.specs.Option.{unwrap_or}
use Rattle.std.specs.List.{range_with_len}
use Rattle.volume_model.specs.declared.inode.Dinode.{Dinode}
use Rattle.volume_model.specs.Format.{Blocks, is_file, is_directory}
use Rattle.volume_model.specs.Sound.{UsedInode, block_numbered, size_in_blocks, Attributes, Node, File, Directory, Link, attributes_of, file_block, pointer_names, node_of}
use Rattle.change_laws.specs.Plans.{KeepsBlocks, with_attributes}
use Rattle.change_laws.proofs.InodeRights.{same_file, same_directory}

abbrev node_by : Blocks → UsedInode → (file directory : Bool) → Attributes → (size : ℕ) → Node
node_by blocks u file directory a size =
    cond file
    (File (record { attributes = a; size = size; blocks = map (λ index. file_block blocks (slice_index u.numbers index)) (range_with_len 0 (size_in_blocks size)); pointers = pointer_names u }))
    (cond directory (Directory (record { attributes = a; chunks = map (λ chunk. unwrap_or chunk []) u.chunks }))
    (Link (record { attributes = a; text = take size (block_numbered blocks (slice_index u.numbers 0)) })))

by_parts : (blocks : Blocks) (u : UsedInode) → node_of blocks u ≡ node_by blocks u (is_file u.inode.mode) (is_directory u.inode.mode) (attributes_of u.inode) u.inode.size
by_parts blocks u = refl

other_attributes : (blocks : Blocks) (u : UsedInode) (file directory : Bool) (old new : Attributes) (size : ℕ)
    → node_by blocks u file directory new size ≡ with_attributes new (node_by blocks u file directory old size)
other_attributes blocks u true directory old new size = refl
other_attributes blocks u false true old new size = refl
other_attributes blocks u false false old new size = refl

-- a record that keeps its blocks changes attributes alone
pub node_kept : (blocks : Blocks) (u : UsedInode) (d : Dinode) → KeepsBlocks u.inode d
    → node_of blocks (record u { inode = d }) ≡ with_attributes (attributes_of d) (node_of blocks u)
node_kept blocks u d keeps =
    let file = same_file d.mode u.inode.mode keeps.type in
    let directory = same_directory d.mode u.inode.mode keeps.type in
    by_parts blocks (record u { inode = d }) ∙ (λ t. node_by blocks u (file t) (directory t) (attributes_of d) (keeps.size t))
    ∙ other_attributes blocks u (is_file u.inode.mode) (is_directory u.inode.mode) (attributes_of u.inode) (attributes_of d) u.inode.size

-- the same attributes change nothing
pub own_attributes : (blocks : Blocks) (u : UsedInode) → with_attributes (attributes_of u.inode) (node_of blocks u) ≡ node_of blocks u
own_attributes blocks u = sym (other_attributes blocks u (is_file u.inode.mode) (is_directory u.inode.mode) (attributes_of u.inode) (attributes_of u.inode) u.inode.size)
