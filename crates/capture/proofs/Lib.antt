-- The laws of captures, for the crates above.
pub mod Laws
pub mod LaidOut
