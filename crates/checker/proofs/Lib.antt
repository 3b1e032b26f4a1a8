-- The laws of the check, for the crates above.
pub mod Laws
pub mod Judging
pub mod Judged
