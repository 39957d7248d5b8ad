pub mod DueLemmas
mod SendingLemmas
mod ReceivingLemmas
mod ReceivingHistoryLemmas
mod PreparingLemmas
mod SessionLemmas
pub mod PreparedLemmas
pub mod HalvesLemmas
mod JoinedParts
mod JoinedLemmas
mod JoinedLawLemmas
mod SessionLawLemmas
mod UnsettledLawLemmas
mod TakingLemmas
mod SendingCreditLemmas
mod ReceivingCreditLemmas
