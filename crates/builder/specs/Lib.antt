-- The command that makes an order.
pub mod Builder
pub mod Helpers
