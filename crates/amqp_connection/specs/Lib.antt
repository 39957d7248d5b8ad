pub mod States
pub mod Channels
pub mod RouteCounts
pub mod ConnectionErrors
pub mod Connection
pub mod History
pub mod ByHistory
