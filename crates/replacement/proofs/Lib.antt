pub mod Cuts
pub mod Values
pub mod Theorem
pub mod Numbers
pub mod Placed
pub mod Located
