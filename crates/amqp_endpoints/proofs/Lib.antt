mod SendingLemmas
mod SettlingLemmas
mod HistoryLemmas
