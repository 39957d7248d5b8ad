pub mod Mapped
pub mod Answered
pub mod Attached
