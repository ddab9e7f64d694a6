-- what performers say, and how it is answered
pub mod Refusals
pub mod Texts
pub mod TextFaults
pub mod Answers
pub mod Asked
pub mod ReplyTexts
pub mod Goes
-- what a run does with its devices
pub mod Account
pub mod Taken
pub mod Sent
pub mod EndLine
pub mod Ends
pub mod inside
