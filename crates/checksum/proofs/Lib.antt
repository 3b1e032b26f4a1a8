-- The laws of sums.
pub mod Laws
