-- What the bytes of a volume mean: its sectors and blocks, and the records in them.
pub mod Images
pub mod BlockMaps
pub mod Superblocks
pub mod GroupRecords
pub mod InodeRecords
pub mod DirectoryChunks
pub mod PointerBlocks
unfoldable pub use Images.{Image, sectors_of, sectors_from, sector, block, pieces_of, sectors_in, overwritten}
pub use BlockMaps.{IsWhole}
unfoldable pub use BlockMaps.{Blocks, body_blocks_of}
pub use Rattle.lufs_base.specs.Layout.{inodes_of, is_body_region, is_body}
unfoldable pub use Superblocks.{is_geometry, named_geometry, is_super, super_of, geometry_of, super_bytes}
pub use GroupRecords.{GroupRecord, IsGroup, HasBit}
unfoldable pub use GroupRecords.{bit_at, clear_bits, are_set, named_group, has_clear_rest, has_reserved, is_group, group_of, group_bytes}
pub use InodeRecords.{IsDinode}
unfoldable pub use InodeRecords.{has_type, is_file, is_directory, is_link, is_mode, numbers_in, named_dinode, has_indirect, is_dinode, dinode_of, numbers_bytes, dinode_bytes}
pub use DirectoryChunks.{IsSlot, IsChunk}
unfoldable pub use DirectoryChunks.{least_length, slot_at, is_named, is_slot, slots_in, chunk_of, slot_bytes, chunk_bytes, kept_length, room_in, entered, with_name_at, with_name, with_ino, joined, without_slot, found_at, IsUsed, one_slot, new_directory}
unfoldable pub use PointerBlocks.{pointers_of, pointer_bytes}
