pub mod Log
pub mod LogText
-- a text that is read
pub mod Pieces
pub mod LineKinds
pub mod LogGrammar
-- what private contracts alone cite
pub mod inside
