-- The checks that refuse an INQUIRY.
pub mod Checks
pub mod Helpers
