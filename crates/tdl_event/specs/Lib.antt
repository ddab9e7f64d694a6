pub mod ClipLaws
pub mod Event
