-- What a word asks a program for.
pub mod Words
