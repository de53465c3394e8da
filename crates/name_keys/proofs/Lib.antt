pub mod Weights
pub mod Tell
