-- The laws of reading a line; those of its roads are for the crate's own functions.
pub mod Readings
mod Roads
