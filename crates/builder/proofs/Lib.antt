-- For the builder's own functions.
mod Bytes
