-- The laws of the roll.
pub mod Laws
