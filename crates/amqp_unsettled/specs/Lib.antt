pub mod Serial
pub mod Table
pub mod Chain
pub mod History
pub mod Laws
pub mod Inner
