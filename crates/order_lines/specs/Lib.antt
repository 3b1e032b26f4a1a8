-- The order that a line names.
pub mod Line
