-- How far two runs of bytes agree.
pub mod Agreed
pub mod Helpers
