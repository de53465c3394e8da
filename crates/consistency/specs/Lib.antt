pub mod Relations
pub mod Slots
pub mod Good
pub mod Consistent
pub mod Test
pub mod Evaluate
