-- The fixed form of sense data, and what sense data of either form tell.
pub mod Told
pub mod Fixed
