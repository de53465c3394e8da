-- Laws of a block by itself.
pub mod Compared
pub mod Formed
