-- What the checks leave true once they have passed.
pub mod Laws
