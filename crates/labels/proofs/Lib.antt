-- The rows beside the blocks.
pub mod Rows
