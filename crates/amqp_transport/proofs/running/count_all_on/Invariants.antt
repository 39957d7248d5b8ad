use Rattle.std.proofs.Common.{◌≡◌, ◌++◌, map, take, drop}
use Rattle.amqp_transport.specs.Running.{counted_on}
use Rattle.amqp_transport.proofs.running.count_all_on.Given as goal

abbrev pub invariant-loop-refusal : goal.invariant-loop-refusal
invariant-loop-refusal l = l.refusals ≡ map (counted_on l.taken) (take l.refusal-index l.fn.refusals) ++ drop l.refusal-index l.fn.refusals
