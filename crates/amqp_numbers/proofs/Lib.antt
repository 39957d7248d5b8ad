pub mod NumberLemmas
pub mod RangeLemmas
pub mod SearchLemmas
