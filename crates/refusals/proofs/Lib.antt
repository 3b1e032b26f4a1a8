-- The laws of the table, for the crates above.
pub mod Table
