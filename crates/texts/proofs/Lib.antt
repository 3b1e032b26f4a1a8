-- The laws of texts, for the crates above.
pub mod Text
