use Rattle.std.proofs.Common.{ℕ, ◌≡◌, ◌-◌, ◌≤◌, max, vec_capacity, vec_len}
use Rattle.amqp_endpoints.specs.Places.{place_at}
use Rattle.amqp_endpoints.proofs.place.fill_up.Given as goal

abbrev pub invariant-loop-list : goal.invariant-loop-list
invariant-loop-list l = record {
  same : (k : ℕ) → place_at l.list.items k ≡ place_at l.fn.list.items k;
  most : vec_len l.list ≤ max (vec_len l.fn.list) l.count;
  least : vec_len l.fn.list ≤ vec_len l.list;
  capacity : vec_capacity l.list ≡ vec_capacity l.fn.list;
}

abbrev pub decreases-loop-list : goal.decreases-loop-list
decreases-loop-list l = l.count - vec_len l.list
