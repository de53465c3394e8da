pub mod Components
pub mod Positions
pub mod Evaluate
