pub mod PairRule
pub mod Counts
pub mod Check
pub mod Others
pub mod UpTo
pub mod Combining
