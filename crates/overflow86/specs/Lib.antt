pub mod Entries
pub mod Expand86
pub mod Steps
