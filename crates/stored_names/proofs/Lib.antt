pub mod Padded
pub mod Made
pub mod NameUnits
pub mod StoredUnits
