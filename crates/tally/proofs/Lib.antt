-- The laws of the census, for the crates above.
pub mod Laws
pub mod Fleet
