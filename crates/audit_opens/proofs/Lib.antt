pub mod CountsScan
pub mod OpensScan
