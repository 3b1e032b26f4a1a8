-- What a write leaves in lent room.
pub mod Room
pub mod Helpers
