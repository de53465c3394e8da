-- The records' definitions, in the order in which document 01 needs them.
pub mod Sizes
pub mod Constants
pub mod Numbers
pub mod Slots
pub mod Terms
pub mod Namespace
pub mod Checked
pub mod State
pub mod Evaluate
