pub mod Bits
pub mod Evaluate
