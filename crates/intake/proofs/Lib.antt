-- The laws of intakes, and of a stream that is divided into runs.
pub mod Laws
pub mod Step
pub mod Stream
