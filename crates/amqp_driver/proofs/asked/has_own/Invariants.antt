use Rattle.std.proofs.Common.{◌≡◌, drop}
use Rattle.amqp_driver.specs.Requests.{has_own}
use Rattle.amqp_driver.proofs.asked.has_own.Given as goal

abbrev pub invariant-loop-refusal : goal.invariant-loop-refusal
invariant-loop-refusal l = has_own l.returned ≡ has_own (drop l.refusal-index l.returned)
