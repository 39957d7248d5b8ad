use Rattle.std.proofs.Common.{◌≡◌, ◌-◌, ◌+◌, ◌++◌, drop, length, Some, vec_len, vec_capacity}
use Rattle.amqp_values.specs.Reading.{◌>>=◌}
use Rattle.amqp1.specs.Logins.{all_in, name_in}
use Rattle.amqp1.proofs.logins.names.Given as goal

abbrev pub invariant-loop-head : goal.invariant-loop-head
invariant-loop-head l = record {
  read : all_in name_in l.heads l.bytes ≡ (all_in name_in (drop l.head-index l.heads) l.rest >>= λ others. Some (l.names.items ++ others));
  room : vec_len l.names + (length l.heads - l.head-index) ≡ vec_capacity l.names;
}
