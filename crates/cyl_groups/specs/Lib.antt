pub mod Bits
pub mod Group
