pub mod Laws
pub mod Gathering
pub mod Whole
pub mod Alike
