pub mod LineLaws
pub mod Packing
pub mod StandingLaws
pub mod Scanning
pub mod Appending
pub mod Written
