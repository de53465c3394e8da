pub mod Streams
pub mod Pass
