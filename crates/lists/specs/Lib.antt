pub mod Text
pub mod Bytes
pub mod Digits
pub mod Parts
pub mod Only
pub mod Chain
