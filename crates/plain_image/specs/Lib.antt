pub mod HomeBlocks
pub mod WrittenBack
pub mod HomesWritten
