-- The order that a pass-through command makes.
pub mod Order
