-- Laws of reading the image.
pub mod Puts
pub mod Blocks
pub mod Rows
pub mod Calls
