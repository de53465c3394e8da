-- The tables in bytes.
pub mod Kinds
pub mod Records
pub mod Layout
pub mod Fits
pub mod Puts
pub mod Calls
pub mod Evaluate
pub mod Places
