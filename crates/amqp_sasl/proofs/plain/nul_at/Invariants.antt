use Rattle.std.proofs.Common.{take}
use Rattle.amqp_sasl.specs.Plain.{NoNul}
use Rattle.amqp_sasl.proofs.plain.nul_at.Given as goal

abbrev pub invariant-loop-place : goal.invariant-loop-place
invariant-loop-place l = NoNul (take l.place l.bytes)
