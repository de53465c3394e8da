-- Numbers and parts in a list of bytes.
pub mod LittleEndian
pub mod Writes
pub mod Evaluate
