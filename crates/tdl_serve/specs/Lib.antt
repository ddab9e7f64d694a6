pub mod Places
pub mod LentPorts
pub mod PortAccounts
-- what private contracts and proofs alone cite
pub mod inside
