pub mod Kept
pub mod Counts
pub mod Order
pub mod Back
pub mod Calls
