pub mod LoopView
pub mod QuotedView
