pub mod Mkfs
pub mod MkfsCrash
pub mod NewVolume
