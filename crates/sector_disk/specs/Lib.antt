pub mod Disk
pub mod MemDisk
pub mod SureDisk
pub mod Chosen
pub mod Continued
