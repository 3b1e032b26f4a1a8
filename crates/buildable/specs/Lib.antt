-- Which orders a command makes, and its fields.
pub mod Fields
pub mod Buildable
pub mod Helpers
