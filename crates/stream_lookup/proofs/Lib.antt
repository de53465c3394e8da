-- A law that the proof of the search cites.
pub mod Lowest
