-- What several proofs of this crate share.
pub mod Standing
