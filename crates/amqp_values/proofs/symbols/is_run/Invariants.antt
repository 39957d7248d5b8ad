use Rattle.std.proofs.Common.{◌≡◌, ◌-◌, is_some}
use Rattle.amqp_values.specs.Symbols.{run_at}
use Rattle.amqp_values.proofs.symbols.is_run.Given as goal

abbrev pub invariant-loop : goal.invariant-loop
invariant-loop l = is_some (run_at (l.count - l.counter) l.long l.rest) ≡ is_some (run_at l.count l.long l.bytes)
