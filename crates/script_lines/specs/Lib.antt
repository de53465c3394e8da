-- The script's lines: what a line asks, what is printed, and what the code's values mean.
pub mod Lines
pub mod Print
pub mod Script
pub mod Found
pub mod Evaluate
