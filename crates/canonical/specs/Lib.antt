pub mod Check
pub mod Located
pub mod Parts
