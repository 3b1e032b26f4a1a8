-- For the buffer of what is printed.
mod Known
