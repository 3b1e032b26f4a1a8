-- What the programs show of a drive's texts.
pub mod Shown
