-- The ports that a page 83h tells.
pub mod Ports
