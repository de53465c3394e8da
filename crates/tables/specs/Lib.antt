pub mod Tables
pub mod Evaluate
