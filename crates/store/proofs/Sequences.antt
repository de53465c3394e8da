-- Demand 3 (specs/Sequences.antt has the statement, Theorem.antt the proof), from the parts up:
-- how the steps of an open before the sharing check end in a consistent namespace (Facts to Prepared), what an accepted
-- open changes (Changes), how the opens and the share counts follow (Opens), that tables and model answer the same
-- questions alike (Views), what a decision says (Completed), what a close leaves (Closing, Closed), and each kind of call
-- (Steps, Violation).
pub mod Facts
pub mod Located
pub mod Granted
pub mod Requested
pub mod Prepared
pub mod Changes
pub mod Opens
pub mod Related
pub mod Views
pub mod Completed
pub mod Closing
pub mod Closed
pub mod Steps
pub mod Violation
pub mod Theorem
