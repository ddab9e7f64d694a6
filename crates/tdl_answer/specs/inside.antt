-- what private contracts and proofs alone cite
pub mod PreparedTexts
pub mod Taking
