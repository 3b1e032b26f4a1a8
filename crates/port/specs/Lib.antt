-- The target ports that page 83h tells.
pub mod Ports
pub mod Helpers
