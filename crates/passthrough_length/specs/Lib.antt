-- The length that a pass-through command asks for.
pub mod Length
pub mod Helpers
