pub mod Choices
pub mod Lengths
pub mod Theorems
pub mod Seven
