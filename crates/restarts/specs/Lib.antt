-- Runs of calls, writes of the image and restarts from one.
pub mod Events
pub mod Sequences
