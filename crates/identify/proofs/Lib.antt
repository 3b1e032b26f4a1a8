-- The laws of blocks and names, for the crates above.
pub mod Block
pub mod Bytes
pub mod Names
pub mod Words
