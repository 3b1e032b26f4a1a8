-- The census, and what becomes of it as blocks are fed.
pub mod Census
pub mod Fleet
