pub mod SuperblockTests
pub mod SuperblockBytes
