pub mod FourChanges
pub mod Stages
pub mod FiveEntries
pub mod Journals
pub mod BlockUsedAgain
