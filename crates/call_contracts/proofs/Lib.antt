pub mod Performing
pub mod Answering
pub mod Decided
pub mod Opened
pub mod Closed
pub mod Sequences
