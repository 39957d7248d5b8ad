pub mod Collector
pub use Rattle.amqp_links.specs as amqp_links
pub mod History
