-- What input is read, and what is printed.
pub mod Stream
pub mod Buffered
