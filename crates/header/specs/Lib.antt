pub mod Steps
pub mod Lead
pub mod Body
pub mod Ranges
pub mod Header
