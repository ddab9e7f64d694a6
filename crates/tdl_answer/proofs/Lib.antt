pub mod ReadTexts
pub mod AskedCalls
pub mod SentPackets
pub mod DeviceCalls
pub mod TakenLines
pub mod GoneLines
pub mod WireSends
pub mod OneAsk
