-- The fields of a pass-through command.
pub mod Fields
pub mod Helpers
