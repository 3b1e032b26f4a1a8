-- What an INQUIRY asks for.
pub mod Request
pub mod Asked
pub mod Helpers
