-- The words that rules are written with.
pub mod Bits
pub mod First
