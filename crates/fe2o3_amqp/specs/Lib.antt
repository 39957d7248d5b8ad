pub mod Conditions
pub mod Refusals
pub mod ReplayRelay
pub mod Transcript
pub use Rattle.amqp_memory.specs as amqp_memory
pub use Rattle.amqp_values.specs as amqp_values
pub use Rattle.amqp_types.specs as amqp_types
pub use Rattle.amqp_numbers.specs as amqp_numbers
pub use Rattle.amqp_session.specs as amqp_session
pub use Rattle.amqp_frames.specs as amqp_frames
pub use Rattle.amqp_connection.specs as amqp_connection
pub use Rattle.amqp_engine.specs as amqp_engine
