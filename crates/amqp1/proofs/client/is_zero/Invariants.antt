use Rattle.std.proofs.Common.{◌≡◌, drop}
use Rattle.amqp1.specs.Making.{is_zero}
use Rattle.amqp1.proofs.client.is_zero.Given as goal

abbrev pub invariant-loop-byte : goal.invariant-loop-byte
invariant-loop-byte l = is_zero l.bytes ≡ is_zero (drop l.byte-index l.bytes)
