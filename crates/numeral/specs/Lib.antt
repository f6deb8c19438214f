pub mod Runs
pub mod Numerals
