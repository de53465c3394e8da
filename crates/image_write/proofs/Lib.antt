-- What is written of a block, and that it is the image's.
pub mod Spelled
pub mod Blocks
pub mod Kept
pub mod Rows
