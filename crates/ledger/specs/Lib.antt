pub mod Lines
pub mod Standing
pub mod Ledger
pub mod Survey
