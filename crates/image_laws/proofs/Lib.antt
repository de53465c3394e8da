-- Laws of the image: the bytes of blocks, reading in rows, what an image keeps, and the round trip.
pub mod Places
pub mod Blocks
pub mod Chains
pub mod Reading
pub mod Put
pub mod Spelled
pub mod Back
pub mod Finish
pub mod SavedSound
pub mod SavedSlots
pub mod SavedTables
pub mod SavedUnopened
pub mod SavedFits
pub mod SavedPlaced
pub mod SavedAlone
pub mod Saved
pub mod Theorems
