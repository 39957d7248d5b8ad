pub mod LowestChannelLemmas
pub mod RouteCountLemmas
pub mod StateTableLemmas
pub mod HistoryLemmas
pub mod OpenCloseCountLemmas
