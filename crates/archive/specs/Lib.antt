pub mod Calls
pub mod Changes
