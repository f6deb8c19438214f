pub mod Playing
pub mod Theorem
