pub mod Names
pub mod Evaluate
