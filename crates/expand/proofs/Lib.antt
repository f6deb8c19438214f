pub mod Steps
pub mod Loops
pub mod Whole
pub mod Runs
pub mod Extents
pub mod Parts
pub mod Facts
