-- The laws of the classes, for the crates above.
pub mod Masked
