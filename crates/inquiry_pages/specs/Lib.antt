-- A page in answer to INQUIRY.
pub mod Helpers
