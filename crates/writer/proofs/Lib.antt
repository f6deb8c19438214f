pub mod Gathering
pub mod Over
pub mod Placing
pub mod Pixel
pub mod Runs
pub mod Whole
pub mod Handed
