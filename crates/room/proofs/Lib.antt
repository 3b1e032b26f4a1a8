-- The laws of writing, for the crates above.
pub mod Laws
