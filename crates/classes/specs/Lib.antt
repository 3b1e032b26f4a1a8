-- The classes of blocks that the census counts.
pub mod Classes
pub mod Helpers
