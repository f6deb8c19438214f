pub mod Storing
pub mod Frame
pub mod Writer
pub mod Blocks
