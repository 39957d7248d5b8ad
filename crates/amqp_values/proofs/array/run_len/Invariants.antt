use Rattle.std.proofs.Common.{◌≡◌, ◌*◌, ◌^◌, ◌≤◌, length, take}
use Rattle.amqp_values.specs.Writing.{run_text}
use Rattle.amqp_values.proofs.array.run_len.Given as goal

abbrev pub invariant-loop-symbol : goal.invariant-loop-symbol
invariant-loop-symbol l = record {
  total_is : l.total ≡ length (run_text l.long (take l.symbol-index l.items));
  total_small : l.total ≤ 2 ^ 33 * l.symbol-index;
}
