pub mod Sharing
pub mod Saturating
pub mod Others
pub mod Evaluate
pub mod Combined
