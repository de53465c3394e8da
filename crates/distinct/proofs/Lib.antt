pub mod Chains
pub mod Filled
pub mod Apart
pub mod Tells
