-- What sound means, and the tree that a sound volume stands for.
pub mod Readings
pub mod Claims
pub mod Hands
pub mod RecordRules
pub mod NameRules
pub mod BitRules
pub mod Findings
pub mod Trees
pub mod Parts
pub mod TreesOfVolumes
pub mod Mounting
pub mod Opening
pub mod Agreement
pub use Readings.{PointerName, Single, NamedPointer, UsedInode, InodeState, NoRecord, Unused, InUse, Reading}
unfoldable pub use Readings.{direct_blocks, pointers_of_block, group_at, inode_at, named_pointers, block_numbered, pointers_at, numbers_of, chunk_at, chunks_at, used_inode, state_of, state_at, reading_of, inodes_in, used_of, used_at, record_at}
pub use Claims.{Part, AtIndex, AtPointer, Claim, IsLaid}
unfoldable pub use Claims.{index_claim, index_claims, pointer_claim, claims_in, claims_at, claims_of, claims_on, is_claimed}
pub use Hands.{AreApart}
unfoldable pub use Hands.{held_inodes, held_blocks, is_among}
unfoldable pub use RecordRules.{is_bad_group, is_bad_state, is_bad_inode, size_in_blocks, most_blocks, first_index, has_right_links, has_right_size, has_none_past, has_no_hole, has_right_numbers, has_right_fields, has_bad_fields, has_links_out_of_range, has_bad_numbers, is_claimed_twice}
unfoldable pub use NameRules.{Names, slots_of, names_in_reading, dot, dot_dot, is_used_in, is_directory_in, slots_at, names_at, entries_at, parent_at, is_no_directory, begins_right, has_twice, has_bad_slots, names_unused, namers_of, ancestor_of, leads_to_root, has_right_parent, has_bad_parent, links_to, has_bad_bytes, has_bad_chunk, has_bad_links}
unfoldable pub use BitRules.{inode_bit, block_bit, differ, has_bad_inode_bit, has_bad_block_bit, has_right_counts, has_bad_count, clear_in, clear_blocks_of, clear_inodes_in, clear_inodes_of}
pub use Findings.{Sound}
unfoldable pub use Findings.{all_kinds, numbers_of_kind, is_broken, first_of_kind, first_of_kinds, finding_of, counts_of, verdict_on, verdict_of_reading, verdict_of}
pub use Trees.{Attributes, FileNode, DirectoryNode, LinkNode, Node, File, Directory, Link}
unfoldable pub use Trees.{Tree, with_node, directory_blocks, claimed_by, claimed_at, claimed_in_tree, used_in_tree, free_inodes_of, free_blocks_of, shape_of_block, shape_of_node, shape_of, slots_of_node, names_in_tree}
pub use Parts.{IsStored, MakeATree, HasRightLinks}
unfoldable pub use Parts.{IsRightTree}
pub use TreesOfVolumes.{StandsFor}
unfoldable pub use TreesOfVolumes.{attributes_of, file_block, file_blocks, pointer_names, link_text, node_of, tree_of_reading, tree_of}
pub use Mounting.{HasShape}
unfoldable pub use Mounting.{MountsAs}
pub use Opening.{HasNoLaterIdent, OpensWith}
unfoldable pub use Opening.{Opens}
unfoldable pub use Agreement.{index_length, part_length, claim_length, is_of_file, metadata_claim_length, greatest_on, record_length, length_of_records, read_length, metadata_length, AgreeWhereRead, AgreeButInFileBytes}
