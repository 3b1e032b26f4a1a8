-- Texts of an IDENTIFY block.
pub mod Text
pub mod Helpers
