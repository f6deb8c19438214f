pub mod Form
pub mod Layout
