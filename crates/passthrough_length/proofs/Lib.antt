-- The laws of the length.
pub mod Laws
