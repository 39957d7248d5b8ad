use Rattle.std.proofs.Common.{ℕ, ◌≡◌, ◌-◌, ◌≤◌, max, vec_capacity, vec_len}
use Rattle.amqp_links.specs.Ends.{end_at}
use Rattle.amqp_links.proofs.ends.fill_up.Given as goal

abbrev pub invariant-loop-places : goal.invariant-loop-places
invariant-loop-places l = record {
  same : (k : ℕ) → end_at l.places.items k ≡ end_at l.fn.places.items k;
  most : vec_len l.places ≤ max (vec_len l.fn.places) l.count;
  least : vec_len l.fn.places ≤ vec_len l.places;
  capacity : vec_capacity l.places ≡ vec_capacity l.fn.places;
}

abbrev pub decreases-loop-places : goal.decreases-loop-places
decreases-loop-places l = l.count - vec_len l.places
