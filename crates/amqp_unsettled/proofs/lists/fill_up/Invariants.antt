use Rattle.std.proofs.Common.{◌≡◌, ◌-◌, ◌≤◌, max, vec_capacity, vec_len}
use Rattle.amqp_unsettled.specs.Inner.Lists.{AsBefore}
use Rattle.amqp_unsettled.proofs.lists.fill_up.Given as goal

abbrev pub invariant-loop-alloc : goal.invariant-loop-alloc
invariant-loop-alloc l = record {
  same : AsBefore l.fn.lists.items l.lists.items;
  most : vec_len l.lists ≤ max (vec_len l.fn.lists) l.count;
  least : vec_len l.fn.lists ≤ vec_len l.lists;
  capacity : vec_capacity l.lists ≡ vec_capacity l.fn.lists;
}

abbrev pub decreases-loop-alloc : goal.decreases-loop-alloc
decreases-loop-alloc l = l.count - vec_len l.lists
