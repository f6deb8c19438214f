pub mod Replace
pub mod Replaced
pub mod Answered
