pub mod Later
pub mod MergedLays
pub mod LaidTogether
pub mod MergedBytes
pub mod DraftSteps
pub mod ReadRecords
