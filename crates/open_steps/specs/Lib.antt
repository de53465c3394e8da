pub mod Targets
pub mod Pendings
pub mod Decisions
