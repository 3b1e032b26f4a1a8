-- The head of page 83h, and its first descriptor, which names the drive.
pub mod Descriptor
pub mod Helpers
