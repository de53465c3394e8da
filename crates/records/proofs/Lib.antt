-- Laws about the records that belong to no single function.
pub mod Checked
pub mod Arrays
pub mod Lengths
pub mod Elements
pub mod Seen
