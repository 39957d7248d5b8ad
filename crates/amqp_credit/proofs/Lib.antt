pub mod ChainLemmas
mod SenderLemmas
mod ReceiverLemmas
mod GrantLemmas
mod AssemblyLemmas
mod PartLemmas
pub mod PairLemmas
pub mod PairCalls
mod PairLawLemmas
pub mod HalvesLemmas
