-- The reader of page 83h.
pub mod Reader
