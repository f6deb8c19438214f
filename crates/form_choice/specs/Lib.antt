pub mod Choosing
pub mod Lengths
