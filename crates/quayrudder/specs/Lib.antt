pub mod Date
