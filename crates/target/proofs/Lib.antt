-- Laws that the proofs of the steps cite.
pub mod Steps
pub mod Directories
