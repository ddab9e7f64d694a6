pub mod Tests
pub mod OneFront
pub mod Runs
pub mod FirstFault
pub mod OneFault
