-- Values in bytes.
pub mod Codec
pub mod Field
pub mod Evaluate
