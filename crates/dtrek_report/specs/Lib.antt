pub mod Report
pub mod Item
pub mod Theorems
