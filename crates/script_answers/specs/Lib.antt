-- The script's lines answered on the lent tables: one line, and the lines of a whole script.
pub mod Answers
pub mod Scripts
