-- What the contracts of private functions cite, and no public one does.
pub mod Order
pub mod Rows
pub mod Lists
