pub mod Why
pub mod Theorems
