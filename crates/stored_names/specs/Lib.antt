pub mod StoredNames
pub mod Evaluate
