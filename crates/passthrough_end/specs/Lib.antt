-- How an order ends.
pub mod End
