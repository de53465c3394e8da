-- An answer in numbers.
pub mod Numbers
