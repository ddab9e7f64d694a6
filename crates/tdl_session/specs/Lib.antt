pub mod Passes
pub mod Told
pub mod Gatherings
-- what private contracts alone cite
pub mod inside
