mod HistoryLemmas
mod DueLemmas
mod NextLemmas
mod InTimeLemmas
