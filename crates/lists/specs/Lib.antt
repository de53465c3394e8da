pub mod Lists
pub mod Evaluate
