pub mod Runs
mod Numerals
