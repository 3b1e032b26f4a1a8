-- The law of the INQUIRY entry.
pub mod Laws
