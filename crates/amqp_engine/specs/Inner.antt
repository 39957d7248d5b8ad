-- What the contracts of private functions cite, and no public one does.
pub mod Running
pub mod Calls
pub mod ByHistory
pub mod Headline
pub mod Flushing
pub mod Places
pub mod Putting
pub mod Taken
