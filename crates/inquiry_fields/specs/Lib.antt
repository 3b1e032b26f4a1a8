-- The fields of an INQUIRY command.
pub mod Fields
