-- The laws of checks in order and of tests over a table, for the crates above.
pub mod First
pub mod Below
