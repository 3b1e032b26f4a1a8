-- The laws of the ports' part of page 83h, for the crates above.
pub mod Laws
