pub mod Plate
pub mod MarHeader
