-- The laws of the roll of a run of intakes, and of intakes that streams have filled.
mod Laws
pub mod Stream
