-- Page 83h, the page that names the drive.
pub mod Page83
pub mod Helpers
