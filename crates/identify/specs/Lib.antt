-- The IDENTIFY block, and whether it carries a name.
pub mod Block
pub mod Bytes
pub mod Names
pub mod Sector
pub mod Words
