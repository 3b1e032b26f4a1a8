-- The laws of a page 83h beside what it tells, for the crates above.
pub mod Laws
pub mod Furthest
