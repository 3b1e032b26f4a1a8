-- Laws of the orders that a command makes, and of its fields there and back; the last is for `buildable` alone.
pub mod Laws
pub mod Inverse
mod InTurn
