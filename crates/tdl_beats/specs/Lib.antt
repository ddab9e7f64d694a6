pub mod Beats
pub mod Rising
pub mod Fronts
pub mod Beaten
pub mod inside
