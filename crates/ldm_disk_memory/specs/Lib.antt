pub mod MemDisk
pub mod Pending
pub mod Consistent
pub mod MemSite
