-- The sum of a block's bytes, and which blocks are damaged.
pub mod Checksum
