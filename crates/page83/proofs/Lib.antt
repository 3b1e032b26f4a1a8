-- The laws of page 83h, for the crates above.
pub mod Laws
