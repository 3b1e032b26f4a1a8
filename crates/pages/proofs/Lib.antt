-- The laws of the pages, for the crates above.
pub mod Laws
