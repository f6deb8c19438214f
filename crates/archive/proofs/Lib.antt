pub mod Changes
pub mod Outcomes
