pub mod FileIndex
