pub mod WritingLaws
pub mod Lengths
pub mod Entering
pub mod Showing
