-- Small values that the definitions are computed on, those of several crates.
pub mod Logs
pub mod Volumes
unfoldable pub use Logs.{smallest, head_of, log_sector, ring_of_sectors, empty_sector, empty_tx}
unfoldable pub use Volumes.{made_of, made, made_root, replaced, changed, with_inode, with_bits, with_counts, with_chunk, with_pointers, inode_of, file, directory, link, slot, directory_slots, with_root, with_file, with_all, with_held_bits}
