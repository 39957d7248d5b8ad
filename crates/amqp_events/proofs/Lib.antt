pub mod AttachedLemmas
pub mod RoomLemmas
pub mod RunLemmas
