pub mod Asked
pub mod NewRecords
pub mod LostNames
pub mod GainedNames
