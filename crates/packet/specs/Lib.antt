-- Packet drives.
pub mod Packet
pub mod Helpers
