pub mod Free
pub mod Evaluate
