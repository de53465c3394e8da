pub mod Cleared
pub mod Settled
