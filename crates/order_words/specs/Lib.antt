-- The words of a line, and the numbers that words are.
pub mod Words
pub mod Number
