-- The laws, for the crates above.
pub mod Laws
