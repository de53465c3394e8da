pub mod Fresh
pub mod Written
pub mod Bytes
pub mod Decoded
