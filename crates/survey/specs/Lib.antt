pub mod Survey
