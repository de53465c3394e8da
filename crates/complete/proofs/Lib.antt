-- Laws that the proofs of the crate cite.
pub mod NewFile
