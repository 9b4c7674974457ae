pub mod ChangedSlots
pub mod EditedTrees
pub mod ToldEdits
pub mod GrownRecords
pub mod WantedBlocks
pub mod EnteredTrees
pub mod ToldEntries
