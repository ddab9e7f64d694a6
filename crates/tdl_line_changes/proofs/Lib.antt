pub mod SwapTexts
pub mod SwapFacts
pub mod PreparedTexts
pub mod ValidPatterns
