-- What an accepted open writes leaves consistent names.
pub mod Types
pub mod Files
pub mod Marks
pub mod Attributes
pub mod Free
pub mod Relations
pub mod Streams
pub mod NewStream
pub mod Stream
pub mod Parents
pub mod Links
pub mod File
pub mod Placed
