pub mod Exchange
pub mod Failing
pub mod Received
pub mod Running
pub mod Stream
