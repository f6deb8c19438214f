pub mod Model
pub mod Ledger
pub mod Run
pub mod Demand3
pub mod Theorems
