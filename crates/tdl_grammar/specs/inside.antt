-- What proofs speak of: machines of tokens, and what is to be shown of one.
pub mod TokenMachine
