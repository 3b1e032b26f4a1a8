-- What a drive is asked and says of its health.
pub mod Said
pub mod Asked
