-- What proofs and private laws speak of: the machine of tokens, and the tokens that the lexer cuts.
pub mod Laws
pub mod Readable
