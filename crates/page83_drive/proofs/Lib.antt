-- The laws of the head and the first descriptor of page 83h, for the crates above.
pub mod Laws
