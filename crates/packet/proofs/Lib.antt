-- The laws of the list of codes, for the crates above.
pub mod Laws
