-- The laws of writing texts, for the crates above.
pub mod Laws
