pub mod Smallest
pub mod Steps
pub mod Theorems
