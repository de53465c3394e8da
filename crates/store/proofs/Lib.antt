-- The worked cases, demand 3 (the theorem about every sequence of calls), and laws of single calls.
pub mod Cases
pub mod StepCases
pub mod Sequences
pub mod Laws
