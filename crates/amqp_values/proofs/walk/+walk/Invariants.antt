use Rattle.std.proofs.Common.{length, ◌≡◌, ◌+◌, ◌*◌, ◌-◌}
use Rattle.amqp_values.specs.Walk.{repeat, value_of, data_of, constructor_of, under}
use Rattle.amqp_values.proofs.walk.+walk.Given as goal

abbrev pub decreases-compound : goal.decreases-compound
decreases-compound l = 8 * l.depth

abbrev pub decreases-data : goal.decreases-data
decreases-data l = 8 * l.depth + 1

abbrev pub decreases-run : goal.decreases-run
decreases-run l = 8 * l.depth + 2

abbrev pub decreases-value : goal.decreases-value
decreases-value l = 8 * l.depth + 2

abbrev pub decreases-elements : goal.decreases-elements
decreases-elements l = 8 * l.depth + 3

abbrev pub decreases-values : goal.decreases-values
decreases-values l = 8 * l.depth + 3

abbrev pub decreases-inside : goal.decreases-inside
decreases-inside l = 8 * l.depth + 4

abbrev pub invariant-run-loop : goal.invariant-run-loop
invariant-run-loop l = repeat (l.count - l.counter) (data_of (under l.depth) l.class) l.rest ≡ repeat l.count (data_of (under l.depth) l.class) l.bytes

abbrev pub invariant-values-loop : goal.invariant-values-loop
invariant-values-loop l = repeat (l.count - l.counter) (value_of (under l.depth)) l.rest ≡ repeat l.count (value_of (under l.depth)) l.bytes

abbrev pub decreases-constructor : goal.decreases-constructor
decreases-constructor l = 8 * l.depth + 3

abbrev pub invariant-constructor-loop : goal.invariant-constructor-loop
invariant-constructor-loop l = constructor_of (under l.depth) (length l.bytes - l.counter) l.rest ≡ constructor_of (under l.depth) (length l.bytes) l.bytes
