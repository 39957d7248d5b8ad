pub mod ExchangeLemmas
pub mod PlaceLemmas
pub mod ReadLemmas
pub mod ReceivedLemmas
pub mod RoundLawLemmas
pub mod RoundLemmas
pub mod RunLemmas
pub mod WriteLemmas
