pub mod Performs
pub mod Sequences
