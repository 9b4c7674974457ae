pub mod BitChanges
pub mod Counts
pub mod BitRuns
pub mod RecordTests
pub mod Written
