-- The image of the tables in blocks.
pub mod Blocks
pub mod Alone
pub mod Image
pub mod Evaluate
