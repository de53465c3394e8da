-- The laws of forms in bytes, for each way to put them together.
pub mod Bytes
pub mod Laws
pub mod Fields
pub mod Rows
pub mod Standing
pub mod Zeros
