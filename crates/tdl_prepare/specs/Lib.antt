pub mod Numbers
pub mod Built
pub mod Asked
pub mod Prepared
pub mod inside
