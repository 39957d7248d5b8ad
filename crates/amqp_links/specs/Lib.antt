pub mod Life
pub mod Sending
pub mod Receiving
pub mod SendingCredit
pub mod SendingHistory
pub mod ReceivingHistory
pub mod ReceivingCredit
pub mod Ends
pub mod Joined
pub mod Session
pub mod Attaching
pub mod Granting
pub mod Noting
pub mod SendingParts
pub mod Preparing
pub mod PreparingFlow
pub mod TakingParts
pub mod Settling
pub mod SessionHistory
pub mod UnsettledHistory
pub use Rattle.amqp_memory.specs as amqp_memory
pub use Rattle.amqp_credit.specs as amqp_credit
pub use Rattle.amqp_unsettled.specs as amqp_unsettled
