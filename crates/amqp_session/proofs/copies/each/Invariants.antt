use Rattle.std.proofs.Common.{◌≡◌, ◌+◌, ◌-◌, ◌≤◌, take, vec_len, vec_capacity}
use Rattle.amqp_session.proofs.copies.each.Given as goal

abbrev pub invariant-loop-at : goal.invariant-loop-at
invariant-loop-at l = record {
  items_are : l.copies.items ≡ take l.at l.symbols.items;
  room_is : vec_len l.copies + (l.at-end - l.at) ≤ vec_capacity l.copies;
}
