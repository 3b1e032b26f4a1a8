-- The laws of what is read, for the crates above.
pub mod Zero
