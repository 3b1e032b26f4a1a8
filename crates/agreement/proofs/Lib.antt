-- The laws of agreement, for the crates above.
pub mod Laws
pub mod Same
