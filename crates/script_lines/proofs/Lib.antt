pub mod Example
pub mod Cases
pub mod Reading
pub mod Widths
pub mod Units
pub mod Printing
pub mod Asked
pub mod ReadBack
