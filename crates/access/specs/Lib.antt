pub mod Access
pub mod Evaluate
