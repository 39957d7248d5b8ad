use Rattle.std.proofs.Common.{◌≡◌, drop}
use Rattle.amqp_sasl.specs.SaslFrame.{names_in}
use Rattle.amqp_sasl.specs.Opening.{choose}
use Rattle.amqp_sasl.proofs.ChoiceLemmas.{shifted}
use Rattle.amqp_sasl.proofs.opening.reading.choose.Given as goal

abbrev pub invariant-loop-place : goal.invariant-loop-place
invariant-loop-place l = choose l.logins (names_in l.names) ≡ shifted l.place (choose (drop l.place l.logins) (names_in l.names))
