-- The laws of the pending record, and of functions over it as it is lent.
pub mod Over
pub mod Thin
pub mod Unmoved
