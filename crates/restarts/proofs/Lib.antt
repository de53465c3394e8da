-- The proof of demand 3 across restarts (Theorem.antt), from the parts up: the next handle in written blocks (Blocks), in what a
-- reading has (Read), and what each event keeps (Kept).
pub mod Blocks
pub mod Read
pub mod Kept
pub mod Theorem
