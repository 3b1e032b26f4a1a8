-- What is done with intakes.
pub mod Received
pub mod Stream
