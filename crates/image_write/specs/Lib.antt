-- What a block has of the tables' bytes.
pub mod Kept
