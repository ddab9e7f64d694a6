pub mod TimeOrder
