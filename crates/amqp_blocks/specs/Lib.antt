pub mod Chunked
pub mod Lending
pub mod Inner
