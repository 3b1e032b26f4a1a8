-- The laws of drives, for the crates above.
pub mod Drive
mod Number
pub mod Words
