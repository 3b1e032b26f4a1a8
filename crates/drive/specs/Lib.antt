-- When two blocks are the same drive.
pub mod Drive
pub mod Words
pub mod Helpers
