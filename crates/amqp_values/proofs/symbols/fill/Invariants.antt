use Rattle.std.proofs.Common.{◌≡◌, ◌≤◌, ◌-◌, ◌+◌, ◌++◌, drop, length, Some, vec_len, vec_capacity}
use Rattle.amqp_values.specs.Reading.{◌>>=◌}
use Rattle.amqp_values.specs.Symbols.{run_at}
use Rattle.amqp_values.proofs.symbols.fill.Given as goal

abbrev pub invariant-loop : goal.invariant-loop
invariant-loop l = record {
  read : run_at l.count l.long l.bytes ≡ (run_at (l.count - l.counter) l.long (drop l.at l.bytes) >>= λ others. Some (l.items.items ++ others));
  inside : l.at ≤ length l.bytes;
  room : vec_len l.items + (l.count - l.counter) ≡ vec_capacity l.items;
}
