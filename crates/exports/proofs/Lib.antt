pub mod Read
pub mod Returned
pub mod Sequences
