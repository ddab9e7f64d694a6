pub mod Spelling
pub mod Grammar
pub mod Tests
pub mod Faults
pub mod NumberTexts
pub mod Texts
pub mod Readings
pub mod inside
