pub mod Counting
pub mod Watching
