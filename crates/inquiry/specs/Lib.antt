-- The INQUIRY entry.
pub mod Inquiry
