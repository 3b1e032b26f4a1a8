-- The laws of what is shown.
mod Shows
