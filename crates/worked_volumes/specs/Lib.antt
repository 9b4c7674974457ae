pub mod Logs
pub mod Chunks
pub mod Records
pub mod Volumes
