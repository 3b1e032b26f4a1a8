-- The laws of the checks, for the crates above.
pub mod Laws
