use Rattle.std.proofs.Common.{◌≡◌, ◌-◌, ◌+◌, ◌++◌, drop, length, Some, vec_len, vec_capacity}
use Rattle.amqp_values.specs.Reading.{◌>>=◌}
use Rattle.amqp1.specs.Logins.{all_in, login_in}
use Rattle.amqp1.proofs.logins.logins.Given as goal

abbrev pub invariant-loop-head : goal.invariant-loop-head
invariant-loop-head l = record {
  read : all_in login_in l.heads l.bytes ≡ (all_in login_in (drop l.head-index l.heads) l.rest >>= λ others. Some (l.logins.items ++ others));
  room : vec_len l.logins + (length l.heads - l.head-index) ≡ vec_capacity l.logins;
}
