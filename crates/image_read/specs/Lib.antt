-- What the functions that read the image are proved to do.
pub mod Reads
