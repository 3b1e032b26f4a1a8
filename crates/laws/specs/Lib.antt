-- The laws of cutting and turning.
pub mod Laws
