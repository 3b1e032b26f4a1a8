-- The table of refusals.
pub mod Refusal
pub mod Helpers
