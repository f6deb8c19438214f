pub mod Months
pub mod Order
