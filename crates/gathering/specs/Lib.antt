-- The blocks of a run of intakes.
pub mod Gathering
pub mod Helpers
