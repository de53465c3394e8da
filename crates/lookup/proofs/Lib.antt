-- Laws that the proofs of the walk cite.
pub mod Walking
pub mod Lowest
