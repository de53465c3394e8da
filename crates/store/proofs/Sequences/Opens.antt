-- The table of opens and the share counts: what an open that joins, a change of the names and an open that leaves do.
pub mod Names
pub mod Table
pub mod Join
pub mod Leave
pub mod Counts
pub mod Conflicts
pub mod Close
