pub mod Attached
pub mod Event
pub mod Policy
pub mod Queue
pub mod Room
pub mod Runs
pub mod Telling
