-- The checks that refuse a pass-through command.
pub mod Checks
pub mod Helpers
