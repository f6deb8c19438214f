pub mod Steps
pub mod Expand
pub mod Blocks
pub mod Places
