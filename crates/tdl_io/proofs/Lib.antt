pub mod Told
pub mod Counts
pub mod Written
pub mod MadeAgain
pub mod Packets
pub mod Beats
pub mod OneText
pub mod SentFrames
