-- For what is gathered of a piece.
mod Gathered
