pub mod StreamLookup
pub mod Evaluate
