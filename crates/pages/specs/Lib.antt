-- The pages of INQUIRY other than 83h.
pub mod Page
pub mod Helpers
