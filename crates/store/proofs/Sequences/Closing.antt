-- What becomes of the file and stream of a closed open leaves consistent tables: what is known once the open is struck
-- (Facts; Struck shows it), slots and opens that stay, each effect, and the one that the tables decide (Effects). The
-- names become those of the model (Names).
pub mod Facts
pub mod Slots
pub mod Opens
pub mod Counts
pub mod FileMarked
pub mod StreamMarked
pub mod StreamRemoved
pub mod FileGone
pub mod FileRemoved
pub mod Names
pub mod Effects
pub mod Struck
