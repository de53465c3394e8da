pub mod Parsed
pub mod Parsing
pub mod Judging
pub mod Walk
