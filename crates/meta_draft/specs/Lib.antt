pub mod Drafted
pub mod Records
pub mod OnBlock
