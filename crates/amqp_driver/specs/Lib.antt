pub mod Answering
pub mod BeginSession
pub mod Cutting
pub mod Driver
pub mod Ending
pub mod Front
pub mod Heads
pub mod Laws
pub mod LinkNames
pub mod Outcome
pub mod Plain
pub mod Record
pub mod Refusals
pub mod Requests
pub mod Sending
pub mod Settling
pub mod Stream
pub mod StreamLife
pub mod StreamRecord
pub mod StreamTaking
pub mod StreamTicking
pub mod Tag
pub mod Taking
pub mod Told
pub mod Turn
pub mod Wanted
pub use Rattle.amqp_events.specs as amqp_events
pub use Rattle.amqp_sasl.specs as amqp_sasl
pub use Rattle.amqp_idle.specs as amqp_idle
