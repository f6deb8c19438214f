pub mod Texts
pub mod Loops
pub mod Blocks
pub mod Laws
pub mod Frame
pub mod Facts
