-- The laws of a run of intakes, for the crates above.
pub mod Laws
