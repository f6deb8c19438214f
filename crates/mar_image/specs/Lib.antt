pub mod Pairs
pub mod MarImage
