-- What the census program keeps between two runs.
pub mod Counted
