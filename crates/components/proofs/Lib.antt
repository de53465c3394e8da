pub mod Leading
pub mod Splitting
pub mod Places
