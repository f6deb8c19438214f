pub mod Again
pub mod Bytes
pub mod Decides
pub mod Frames
pub mod Inverse
pub mod Laws
pub mod Stored
pub mod Values
