-- The laws of the tables in bytes.
pub mod Tests
pub mod Records
pub mod Tables
pub mod Lengths
pub mod Fields
pub mod Typed
pub mod Parts
pub mod InPlace
pub mod Stands
pub mod Changes
pub mod Zeros
pub mod Calls
