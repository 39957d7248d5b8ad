-- What the contracts of private functions cite, and no public one does.
pub mod Reading
pub mod Sending
pub mod Nul
