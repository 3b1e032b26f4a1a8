-- What the proofs of the pages share.
pub mod Laws
