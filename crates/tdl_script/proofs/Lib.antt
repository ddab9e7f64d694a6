pub mod TokenLoop
pub mod PatternTexts
pub mod ReadToks
pub mod QuotedTexts
