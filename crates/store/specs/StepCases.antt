-- Cases for every clause of every step, in the order of document 01. proofs/StepCases.antt proves them by evaluation.
pub mod Statuses
pub mod Form
pub mod Parameters
pub mod Names
pub mod Lookups
pub mod NewFiles
pub mod Directories
pub mod Streams
pub mod Resources
pub mod Rules
pub mod Shares
pub mod Calls
pub mod Deletes
pub mod Pending
pub mod Removals
pub mod Tables
