-- The line that is on its way.
pub mod Begun
