use Rattle.std.proofs.Common.{◌≡◌, ◌≤◌, ◌+◌, ◌-◌, take, length, vec_len, vec_capacity}
use Rattle.amqp_types.proofs.copies.each.Given as goal

abbrev pub invariant-loop-at : goal.invariant-loop-at
invariant-loop-at l = record {
  copied : l.copies.items ≡ take l.at l.symbols.items;
  room : vec_len l.copies + (length l.symbols.items - l.at) ≡ vec_capacity l.copies;
}
