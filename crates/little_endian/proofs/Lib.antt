-- Laws of numbers in bytes and of parts of a list, each over the width.
pub mod Parts
pub mod Numbers
