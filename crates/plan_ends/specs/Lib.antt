pub mod Tests
pub mod Planned
