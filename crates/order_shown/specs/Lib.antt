-- What is shown of a line.
pub mod Shown
