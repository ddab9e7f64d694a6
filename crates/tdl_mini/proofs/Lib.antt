pub mod TextLaws
pub mod MeaningLaws
pub mod FlatTexts
pub mod TokenLoop
pub mod DigitLemmas
