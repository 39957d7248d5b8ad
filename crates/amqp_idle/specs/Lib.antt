pub mod Idle
pub mod History
pub mod Laws
