-- In the order of document 01.
pub mod Request
pub mod Target
pub mod Prepare
pub mod Complete
pub mod Close
pub mod Store
pub mod Model
pub mod Calls
pub mod Evaluate
pub mod Cases
pub mod StepCases
pub mod Sequences
