-- What is printed of a block: its texts, and its drive's row.
pub mod Label
