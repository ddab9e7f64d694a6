-- What proofs speak of: what is to be shown of a notation.
pub mod Fits
