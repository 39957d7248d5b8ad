-- Part: other calls.
-- What contracts see of a client.
use Rattle.amqp_driver.specs.declared.plain.PlainRelay.{PlainRelay}
use Rattle.amqp_driver.specs.Stream.{StreamView}
use Rattle.amqp1.specs.Refused.{RefusedModel}

pub record ClientView : Type 0 where
  -- headers and SASL, the engine, the bytes that wait to be sent, how many frames did not fit, and the time
  pub stream : StreamView PlainRelay
  -- the last refusal of a request
  pub last : RefusedModel
