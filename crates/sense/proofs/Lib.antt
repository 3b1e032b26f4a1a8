-- The laws of sense data, for the crates above.
pub mod Sense
pub mod Carried
