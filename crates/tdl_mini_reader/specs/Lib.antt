pub mod NestsView
pub mod TokenView
pub mod ReaderView
pub mod inside
