pub mod Paths
pub mod Positions
pub mod Evaluate
