pub mod Compact
pub mod Gather
