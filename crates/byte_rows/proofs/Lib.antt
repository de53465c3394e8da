-- Laws of rows of bytes.
pub mod Parts
