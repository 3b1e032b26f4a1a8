-- The layout of a capture.
pub mod Capture
pub mod Layout
