-- What the contracts of private functions cite, and no public one does.
pub mod Decoding
pub mod Pieces
pub mod Parts
pub mod Woven
