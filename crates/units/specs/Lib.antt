pub mod Units
pub mod Evaluate
