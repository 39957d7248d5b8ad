-- What the contracts of private functions cite, and no public one does.
pub mod Kinds
pub mod LinksTable
pub mod NameTables
pub mod Slot
