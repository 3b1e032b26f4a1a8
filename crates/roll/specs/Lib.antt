-- The roll of drives.
pub mod Roll
pub mod Helpers
