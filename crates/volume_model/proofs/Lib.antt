pub mod Sectors
pub mod Calls
pub mod Outcomes
pub mod CrashLaws
pub mod ReplayLaws
pub mod Pieces
pub mod SetBits
