pub mod Format
pub mod Log
pub mod Crash
pub mod MkfsImage
pub mod Sound
pub mod Texts
pub mod Worked
