-- Laws of words and numbers, for the crate's own functions.
mod Numbers
mod Places
