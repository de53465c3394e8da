-- Laws of the image's blocks.
pub mod Records
pub mod Check
