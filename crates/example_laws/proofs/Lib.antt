pub mod MappedLemmas
pub mod AnsweredLemmas
pub mod AttachedLemmas
