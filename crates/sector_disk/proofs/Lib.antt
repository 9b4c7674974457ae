pub mod Told
pub mod CrashSteps
pub mod ChosenSectors
pub mod OwnCalls
pub mod MadeCalls
