pub mod Ending
pub mod Sources
pub mod Volume
pub mod Sessions
pub mod Drive
