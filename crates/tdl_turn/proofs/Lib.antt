pub mod Lists
mod Sums
mod SeatSteps
mod Meetings
mod Ends
