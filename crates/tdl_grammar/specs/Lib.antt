pub mod Grammar
pub mod Faults
pub mod Decidable
pub mod Machine
pub mod inside
