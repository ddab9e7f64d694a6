-- what private contracts and proofs alone cite
pub mod OneLine
pub mod Serving
