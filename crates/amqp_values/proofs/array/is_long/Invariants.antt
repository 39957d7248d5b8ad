use Rattle.std.proofs.Common.{◌≡◌, length, take, true, ltb}
use Rattle.std.specs.List.{list_all}
use Rattle.amqp_values.proofs.array.is_long.Given as goal

abbrev pub invariant-loop-symbol : goal.invariant-loop-symbol
invariant-loop-symbol l = list_all (λ s. ltb (length s) 256) (take l.symbol-index l.items) ≡ true
