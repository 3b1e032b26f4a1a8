-- The check of another maker's bridge.
pub mod Check
pub mod Judged
pub mod Helpers
