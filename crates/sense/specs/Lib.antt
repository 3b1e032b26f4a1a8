-- Sense data, in both forms.
pub mod Sense
pub mod Carried
